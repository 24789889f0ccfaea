-- The file was read, and its source is expanded.
use Rattle.std.proofs.Common.{[]}
use Rattle.subst_cli.proofs.WrittenLemmas.{checked, checked_as, unread}
use Rattle.subst_cli.specs.Written.{IsChecked}
use Rattle.subst_cli.proofs.per_file.Run.check.Goals as goal
use Rattle.subst_cli.proofs.per_file.Run.check.Goals.{then-self, else-self}

pub returns-after-self : goal.returns-after-self
returns-after-self g c = λ entries are.
    let run = c.args.self.now in
    let path = c.args.file.now in
    let s = c.in-Some.source.bytes.items in
    let read = c.in-Some.ensures.read in
    let output = rw read.1 at (c.expand.ensures.output entries are) in
    let none = rw read.1 at (c.expand.ensures.none entries are) in
    elim c.if-self.branch [
      | then-self w ↦
          checked_as path s _ _ read.0 _ c.read.new.report.worst _ _ run.expander.formats
          run.expander.placeholders.now entries run.options.now.refuses_defaults w.if-self.true c.expand.result
          output none c.expand.ensures.status read.2 (rw w.report-is w.check_defaults.ensures)
      | else-self w ↦
          checked path s _ _ read.0 _ _ _ run.expander.formats run.expander.placeholders.now entries
          run.options.now.refuses_defaults c.expand.result output none c.expand.ensures.status
          (rw w.report-is read.2)
    ]

pub returns-in_default : goal.returns-in_default
returns-in_default g c = λ entries are.
    let run = c.args.self.now in
    unread (IsChecked run.expander.formats run.expander.placeholders.now entries
    run.options.now.refuses_defaults c.args.file.now) c.args.file.now [] _ _ _ _ c.in_default.ensures.unread tt
    (λ s. tt)
