-- A file that is done isn't read again.
use Rattle.std.proofs.Common.{◌≡◌, arith, inr, refl, subst}
use Rattle.std.specs.Prelude.{MatchBool}
use Rattle.subst_cli.proofs.WrittenLemmas.{looked_then}
use Rattle.subst_cli.specs.Files.{DoneBefore, Irregular}
use Rattle.subst_cli.specs.Written.{IsReplaced, has_place}
use Rattle.subst_cli.specs.declared.files.AtPath.TheVariants.{Other, Regular, Unknown}
use Rattle.subst_cli.proofs.per_file.Run.replace_once.Goals as goal

pub returns-then-not-contains : goal.returns-then-not-contains
returns-then-not-contains g c = λ entries are.
    let rule = c.args.self.now.expander.formats in
    let placeholders = c.args.self.now.expander.placeholders.now in
    let file = c.args.file.now in
    looked_then rule placeholders entries c.args.done.now.keys (Regular c.in-Regular.place) file
    (g.F.Files.history c.args.files.now) (g.F.Files.history c.look_at.new.self)
    (g.F.Files.history c.replace.new.files) c.args.report.now.worst c.replace.new.report.worst
    c.in-Regular.ensures (c.replace.ensures entries are)
    (λ result is. subst (λ done. MatchBool done (result ≡ DoneBefore)
    (IsReplaced rule placeholders entries file result)) {y = has_place c.args.done.now.keys c.in-Regular.place}
    c.if-not-contains.ensures is)

pub returns-else-not-contains : goal.returns-else-not-contains
returns-else-not-contains g c = λ entries are.
    let rule = c.args.self.now.expander.formats in
    let placeholders = c.args.self.now.expander.placeholders.now in
    let file = c.args.file.now in (
      Regular c.in-Regular.place,
      DoneBefore,
      subst (λ done. MatchBool done (DoneBefore ≡ DoneBefore)
          (IsReplaced rule placeholders entries file DoneBefore))
          {y = has_place c.args.done.now.keys c.in-Regular.place} c.if-not-contains.ensures refl,
      c.in-Regular.ensures,
      inr (omega arith),
    )

pub returns-in-Other : goal.returns-in-Other
returns-in-Other g c = λ entries are.
    (Other, Irregular, refl, c.in-Other.ensures, c.report_unwritten.ensures)

pub returns-in-Unknown : goal.returns-in-Unknown
returns-in-Unknown g c = λ entries are.
    looked_then c.args.self.now.expander.formats c.args.self.now.expander.placeholders.now entries
    c.args.done.now.keys Unknown c.args.file.now (g.F.Files.history c.args.files.now)
    (g.F.Files.history c.look_at.new.self) (g.F.Files.history c.replace-in-Unknown.new.files)
    c.args.report.now.worst c.replace-in-Unknown.new.report.worst c.in-Unknown.ensures
    (c.replace-in-Unknown.ensures entries are) (λ result is. is)
