-- Each turn replaces one more file.
use Rattle.std.proofs.Common.{◌∙◌, ◌+◌, ◌∷◌, Ok, [], ap, inr, refl, subst, take}
use Rattle.subst_cli.proofs.RunLemmas.{inserted_at, no_success, one_more, one_replaced, others, replaced_run, with_keys}
use Rattle.subst_cli.proofs.WrittenLemmas.{no_calls}
use Rattle.subst_cli.specs.Files.{GoesOn, LookedAt}
use Rattle.subst_cli.specs.Status.{status_of}
use Rattle.subst_cli.specs.Written.{IsDoneOnce, has_place, none_replaced, with_place}
use Rattle.subst_cli.proofs.per_file.Run.replace_each.Goals as goal
use Rattle.subst_cli.proofs.per_file.Run.replace_each.Goals.{in-Regular+in_ok-insert, in_default}

pub loop-template-init : goal.loop-template-init
loop-template-init g c = λ entries are. (
  _,
  [],
  [],
  none_replaced,
  no_calls _,
  inr refl,
  λ place. ap (λ keys. has_place keys place) c.new-done.ensures.empty,
)

pub returns-in_err-insert : goal.returns-in_err-insert
returns-in_err-insert g c = record {
  replaced = λ entries are.
      let l = c.loop-template in
      let run = c.args.self.now in
      let all = c.args.templates.now in
      let template = c.template-item.result in
      let rule = run.expander.formats in
      let placeholders = run.expander.placeholders.now in
      let start = status_of c.args.report.now.worst in
      let first = g.F.Files.history c.args.files.now in
      let mid = g.F.Files.history l.files in
      let looked = g.F.Files.history c.replace_once.new.files in
      let last = g.F.Files.history c.look_at.new.self in
      let worst = c.replace_once.new.report.worst in
      replaced_run rule placeholders entries start first all (l.template-index + 1) last worst
      (with_place l.done.keys c.look_at.result) c.from_residual.result
      (one_replaced rule placeholders entries start first (take l.template-index all) _ template l.done.keys
      c.look_at.result mid looked last l.report.worst worst
      (one_more all l.template-index template c.loop-template-test.true c.template-item.is)
      (l.invariant entries are)
      (subst (λ file. IsDoneOnce rule placeholders entries l.done.keys file mid looked l.report.worst worst)
      c.deref.ensures (c.replace_once.ensures entries are))
      (subst (λ file. GoesOn looked last (LookedAt file c.look_at.result ∷ [])) c.deref-in-loop-template.ensures
      c.look_at.ensures))
      (no_success c.from_residual.result _ c.from_residual.ensures.0);
}

pub loop-template-preserved : goal.loop-template-preserved
loop-template-preserved g c = λ entries are.
    let l = c.loop-template in
    let run = c.args.self.now in
    let all = c.args.templates.now in
    let template = c.template-item.result in
    let rule = run.expander.formats in
    let placeholders = run.expander.placeholders.now in
    let start = status_of c.args.report.now.worst in
    let first = g.F.Files.history c.args.files.now in
    let mid = g.F.Files.history l.files in
    let looked = g.F.Files.history c.replace_once.new.files in
    let last = g.F.Files.history c.look_at.new.self in
    let worst = c.replace_once.new.report.worst in
    with_keys rule placeholders entries start first (take (l.template-index + 1) all) last worst
    (with_place l.done.keys c.look_at.result) c.match-look_at.done.keys
    (elim c.match-look_at.branch [
      | in-Regular+in_ok-insert w ↦ λ place.
          ap (λ set. has_place set.keys place) w.done-is
          ∙ inserted_at l.done w.insert.new.self c.look_at.result w.in-Regular.place w.in-Regular.is
          w.in_ok-insert.ensures.updates place
      | in_default w ↦ λ place.
          ap (λ set. has_place set.keys place) w.done-is
          ∙ others c.look_at.result l.done.keys w.in_default.not-Regular place
    ])
    (one_replaced rule placeholders entries start first (take l.template-index all) _ template l.done.keys
    c.look_at.result mid looked last l.report.worst worst
    (one_more all l.template-index template c.loop-template-test.true c.template-item.is) (l.invariant entries are)
    (subst (λ file. IsDoneOnce rule placeholders entries l.done.keys file mid looked l.report.worst worst)
    c.deref.ensures (c.replace_once.ensures entries are))
    (subst (λ file. GoesOn looked last (LookedAt file c.look_at.result ∷ [])) c.deref-in-loop-template.ensures
    c.look_at.ensures))

pub returns : goal.returns
returns g c = record {
  replaced = λ entries are.
      let l = c.loop-template in
      let run = c.args.self.now in
      replaced_run run.expander.formats run.expander.placeholders.now entries (status_of c.args.report.now.worst)
      (g.F.Files.history c.args.files.now) c.args.templates.now l.template-index (g.F.Files.history l.files)
      l.report.worst l.done.keys (Ok tt) (l.invariant entries are) c.loop-template-test.false;
}
