-- The clauses of each run, for the variables of its task.
use Rattle.std.proofs.Common.{ℕ, List, refl}
use Rattle.subst.specs.Language.LookUp.{LookUp}
use Rattle.subst_filter_lib.specs.FilterRun.{RunAnswers}
use Rattle.subst_filter_lib.proofs.ArgumentLemmas.{holds_by}
use Rattle.subst_filter_lib.proofs.program.run_task.Goals as goal

pub returns-in_ok-values_of_arguments-in-Bytes-clause-answer : goal.returns-in_ok-values_of_arguments-in-Bytes-clause-answer
returns-in_ok-values_of_arguments-in-Bytes-clause-answer g c =
    let written = g.O.ByteOutput.written in
    let Ended = λ (source : List ℕ) (look : LookUp).
    RunAnswers source look c.run_bytes.result (written c.args.output.now) (written c.run_bytes.new.output) in
    let run = c.run_bytes.ensures.answer (λ v. v.now) (λ v. refl) in
    let same = rw c.after_first-rest.ensures at c.in_ok-values_of_arguments-in-Bytes.ensures.values in
    rw c.in-Bytes.is (holds_by Ended _ _ _ same run)

pub returns-in_ok-values_of_arguments-in-Text-clause-answer : goal.returns-in_ok-values_of_arguments-in-Text-clause-answer
returns-in_ok-values_of_arguments-in-Text-clause-answer g c =
    let written = g.O.ByteOutput.written in
    let Ended = λ (source : List ℕ) (look : LookUp).
    RunAnswers source look c.run_text.result (written c.args.output.now) (written c.run_text.new.output) in
    let run = c.run_text.ensures.answer (λ v. v.now) (λ v. refl) in
    let same = rw c.after_first-rest.ensures at c.in_ok-values_of_arguments-in-Text.ensures.values in
    rw c.in-Text.is (holds_by Ended _ _ _ same run)

pub returns-in_ok-values_of_pairs-in-Environment-clause-answer :
    goal.returns-in_ok-values_of_pairs-in-Environment-clause-answer
returns-in_ok-values_of_pairs-in-Environment-clause-answer g c =
    let written = g.O.ByteOutput.written in
    let result = c.run_text-in-Environment.result in
    let output = c.run_text-in-Environment.new.output in
    let Ended = λ (source : List ℕ) (look : LookUp).
    RunAnswers source look result (written c.args.output.now) (written output) in
    let run = c.run_text-in-Environment.ensures.answer (λ v. v.now) (λ v. refl) in
    rw c.in-Environment.is (holds_by Ended _ _ _ c.in_ok-values_of_pairs-in-Environment.ensures.values run)
