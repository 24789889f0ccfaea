-- The bytes written are the output of the source, and the reported fault is its fault.
use Rattle.std.proofs.Common.{arith}
use Rattle.subst_language.specs.Language.Answer.{Answers}
use Rattle.subst_error.specs.ErrorFault.{error_fault}
use Rattle.subst_c.specs.Pairs.{pair_value}
use Rattle.subst_c.proofs.AnswerLemmas.{record_of_refusal, refused_for}
use Rattle.subst_c.proofs.BufferLemmas.{fills_with}
use Rattle.subst_c.proofs.subst_bytes.Goals as goal

pub returns-in-Ok-clause-buffer : goal.returns-in-Ok-clause-buffer
returns-in-Ok-clause-buffer c =
    fills_with c.in-Ok.ensures.answer (rw c.deref.ensures.value at c.deliver.ensures.buffer)

pub returns-in-Err-clause-fault : goal.returns-in-Err-clause-fault
returns-in-Err-clause-fault c = record {
  refused = λ is.
      record_of_refusal (error_fault c.in-Err.e) _ _
      (refused_for (error_fault c.in-Err.e) (Answers c.args.source.now (pair_value c.args.pairs.now))
      c.in-Err.ensures.answer) (c.refuse.ensures.refused is);
  within = λ is. omega (arith, c.refuse.ensures.end is, c.in-Err.ensures.range);
  fault_kept = c.refuse.ensures.kept;
}
