-- Each turn checks one more file.
use Rattle.std.proofs.Common.{[], inr, refl, subst, take}
use Rattle.subst_cli.proofs.RunLemmas.{all_checked, one_checked, one_more}
use Rattle.subst_cli.proofs.WrittenLemmas.{no_calls}
use Rattle.subst_cli.specs.Status.{status_of}
use Rattle.subst_cli.specs.Written.{IsChecked, IsDone, none_checked}
use Rattle.subst_cli.proofs.per_file.Run.check_each.Goals as goal

pub loop-template-init : goal.loop-template-init
loop-template-init g c = λ entries are. (_, [], none_checked, no_calls _, inr refl)

pub loop-template-preserved : goal.loop-template-preserved
loop-template-preserved g c = λ entries are.
    let l = c.loop-template in
    let run = c.args.self.now in
    let all = c.args.templates.now in
    let template = c.template-item.result in
    let rule = run.expander.formats in
    let placeholders = run.expander.placeholders.now in
    let strict = run.options.now.refuses_defaults in
    let mid = g.F.Files.history l.files in
    let last = g.F.Files.history c.check.new.files in
    one_checked rule placeholders entries (status_of c.args.report.now.worst) (g.F.Files.history c.args.files.now)
    strict (take l.template-index all) _ template mid last l.report.worst c.check.new.report.worst
    (one_more all l.template-index template c.loop-template-test.true c.template-item.is) (l.invariant entries are)
    (subst (λ file. IsDone (IsChecked rule placeholders entries strict file) file [] mid last l.report.worst
    c.check.new.report.worst) c.deref.ensures (c.check.ensures entries are))

pub returns : goal.returns
returns g c = record {
  checked = λ entries are.
      let l = c.loop-template in
      let run = c.args.self.now in
      all_checked run.expander.formats run.expander.placeholders.now entries (status_of c.args.report.now.worst)
      (g.F.Files.history c.args.files.now) run.options.now.refuses_defaults c.args.templates.now l.template-index
      (g.F.Files.history l.files) l.report.worst c.loop-template-test.false (l.invariant entries are);
}
