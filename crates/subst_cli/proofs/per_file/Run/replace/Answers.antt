-- The file was read and expanded, and its output was written if it differs from the source.
use Rattle.std.proofs.Common.{arith, subst, sym}
use Rattle.subst_cli.proofs.WrittenLemmas.{handed_on, no_output, unread}
use Rattle.subst_cli.specs.Files.{Kept}
use Rattle.subst_cli.specs.Status.{Raises}
use Rattle.subst_cli.specs.Written.{Gives, IsReplaced}
use Rattle.subst_cli.proofs.per_file.Run.replace.Goals as goal
use Rattle.subst_filter_lib.specs.declared.status.TheConstants.{DONE}

pub returns-in_default : goal.returns-in_default
returns-in_default g c = λ entries are.
    let expander = c.args.self.now.expander in
    unread (IsReplaced expander.formats expander.placeholders.now entries c.args.file.now) c.args.file.now
    c.args.file.now _ _ _ _ c.in_default.ensures.unread tt (λ s. tt)

pub returns-in_default-expand : goal.returns-in_default-expand
returns-in_default-expand g c = λ entries are.
    let expander = c.args.self.now.expander in
    let path = c.args.file.now in
    let read = c.in-Some.ensures.read in
    let none = rw read.1 at (c.in_default-expand.ensures.none entries are) in
    no_output path c.in-Some.source.bytes.items _ _ read.0 _ _ _ expander.formats expander.placeholders.now
    entries (IsReplaced expander.formats expander.placeholders.now entries path) path DONE none read.2
    (omega arith) (λ refuses. refuses) tt

pub returns-then-not-output : goal.returns-then-not-output
returns-then-not-output g c = λ entries are.
    let expander = c.args.self.now.expander in
    let path = c.args.file.now in
    let read = c.in-Some.ensures.read in
    let is = rw (read.1, c.if-not-output.true) at (c.in-Some-expand.ensures.output entries are) in
    let raised = subst (λ w. Raises c.args.report.now.worst w DONE) (sym c.in-Some-expand.ensures.status)
    read.2 in
    handed_on path c.in-Some.source.bytes.items _ _ read.0 _ _ _
    (IsReplaced expander.formats expander.placeholders.now entries path) path _ _ raised
    (rw c.deref.ensures.value at c.write.ensures) is is is

pub returns : goal.returns
returns g c = λ entries are.
    let expander = c.args.self.now.expander in
    let path = c.args.file.now in
    let s = c.in-Some.source.bytes.items in
    let read = c.in-Some.ensures.read in
    let is = rw (read.1, c.if-not-output.false) at (c.in-Some-expand.ensures.output entries are) in (
      Kept s,
      subst (Gives expander.formats expander.placeholders.now entries path s) is.1 is.0,
      read.0,
      subst (λ w. Raises c.args.report.now.worst w DONE) (sym c.in-Some-expand.ensures.status) read.2,
    )
