-- The file was read and expanded, and its output was written, unless its path is taken.
use Rattle.std.proofs.Common.{◌≡◌, arith, refl, subst, sym}
use Rattle.std.specs.Prelude.{MatchBool}
use Rattle.subst_cli.proofs.WrittenLemmas.{handed_on, no_calls, no_output, unread, untaken}
use Rattle.subst_cli.specs.Files.{Taken}
use Rattle.subst_cli.specs.Status.{Raises}
use Rattle.subst_cli.specs.Written.{IsWritten}
use Rattle.subst_cli.proofs.per_file.Run.write_once.Goals as goal
use Rattle.subst_filter_lib.specs.declared.status.TheConstants.{DONE}

pub returns-then-contains : goal.returns-then-contains
returns-then-contains g c = λ entries are.
    let expander = c.args.self.now.expander in
    let Is = IsWritten expander.formats expander.placeholders.now entries c.args.file.now in (
      Taken,
      subst (λ taken. MatchBool taken (Taken ≡ Taken) (Is Taken)) c.if-contains.ensures refl,
      no_calls _,
      c.report_unwritten.ensures,
    )

pub returns-in_default : goal.returns-in_default
returns-in_default g c = λ entries are.
    let expander = c.args.self.now.expander in
    let Is = IsWritten expander.formats expander.placeholders.now entries c.args.file.now in
    untaken expander.formats expander.placeholders.now entries c.args.file.now c.args.target.now _ _ _ _ _
    (sym c.if-contains.ensures)
    (unread Is c.args.file.now c.args.target.now _ _ _ _ c.in_default.ensures.unread tt (λ s. tt))

pub returns-in-Some-expand : goal.returns-in-Some-expand
returns-in-Some-expand g c = λ entries are.
    let expander = c.args.self.now.expander in
    let path = c.args.file.now in
    let read = c.in-Some.ensures.read in
    let is = rw read.1 at (c.in-Some-expand.ensures.output entries are) in
    let raised = subst (λ w. Raises c.args.report.now.worst w DONE) (sym c.in-Some-expand.ensures.status)
    read.2 in
    untaken expander.formats expander.placeholders.now entries path c.args.target.now _ _ _ _ _
    (sym c.if-contains.ensures)
    (handed_on path c.in-Some.source.bytes.items _ _ read.0 _ _ _
    (IsWritten expander.formats expander.placeholders.now entries path) c.args.target.now _ _ raised
    (rw c.deref.ensures.value at c.write.ensures) is.0 is.0 is.0)

pub returns-in_default-expand : goal.returns-in_default-expand
returns-in_default-expand g c = λ entries are.
    let expander = c.args.self.now.expander in
    let path = c.args.file.now in
    let read = c.in-Some.ensures.read in
    let none = rw read.1 at (c.in_default-expand.ensures.none entries are) in
    untaken expander.formats expander.placeholders.now entries path c.args.target.now _ _ _ _ _
    (sym c.if-contains.ensures)
    (no_output path c.in-Some.source.bytes.items _ _ read.0 _ _ _ expander.formats expander.placeholders.now
    entries (IsWritten expander.formats expander.placeholders.now entries path) c.args.target.now DONE none
    read.2 (omega arith) (λ refuses. refuses) tt)
