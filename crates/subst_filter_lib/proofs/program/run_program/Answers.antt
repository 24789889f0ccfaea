-- The clauses of the task's run, at each status.
use Rattle.std.proofs.Common.{List, Err, IfSome, String, inl, inr, ⊎_elim, subst, sym, ◌∙◌}
use Rattle.std.specs.Global.{Global}
use Rattle.subst_filter_lib.specs.FilterRun.{RunAnswers}
use Rattle.subst_filter_lib.specs.Task.{look_up_of_task}
use Rattle.subst_filter_lib.proofs.StatusLemmas.{refused_at_status, read_at_status, prefix_at_status}
use Rattle.subst_filter_lib.proofs.ArgumentLemmas.{holds_of_value}
use Rattle.subst_filter_lib.proofs.program.run_program.Goals as goal

pub returns-clause-refused : goal.returns-clause-refused
returns-clause-refused g c is =
    let e = c.in-Err.e in
    let run = c.in-Err.ensures in
    let written = g.O.ByteOutput.written in
    let Ended = λ (pairs : List (String Global × String Global)).
    IfSome (g.I.ByteInput.left c.args.input.now) (λ source.
    RunAnswers source (look_up_of_task c.in-Some.task c.args.arguments.now pairs) (Err e)
    (written c.args.output.now) (written c.run_task.new.output)) in
    let answer = subst Ended c.deref.ensures.value run.answer in
    let status = sym c.end_with.ensures.status ∙ is in
    let refused = refused_at_status e _ _ _ _ _ status run.source answer in
    (read_at_status e status run.whole, holds_of_value _ _ _ c.in-Some.ensures.task refused)

pub returns-clause-prefix : goal.returns-clause-prefix
returns-clause-prefix g c is =
    let e = c.in-Err.e in
    let run = c.in-Err.ensures in
    let written = g.O.ByteOutput.written in
    let Ended = λ (pairs : List (String Global × String Global)).
    IfSome (g.I.ByteInput.left c.args.input.now) (λ source.
    RunAnswers source (look_up_of_task c.in-Some.task c.args.arguments.now pairs) (Err e)
    (written c.args.output.now) (written c.run_task.new.output)) in
    let answer = subst Ended c.deref.ensures.value run.answer in
    let status = sym c.end_with.ensures.status ∙ is in
    ⊎_elim inl (λ prefix. inr (holds_of_value _ _ _ c.in-Some.ensures.task prefix))
    (prefix_at_status e _ _ _ _ _ status run.source run.unwritten answer)
