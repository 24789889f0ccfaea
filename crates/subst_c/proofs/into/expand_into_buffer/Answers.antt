-- The template's source is a sentence, so the value of its tree is its answer.
use Rattle.std.proofs.Common.{◌≤◌, ◌^◌, length, IfNone, inr, refl, rules, subst, arith}
use Rattle.subst_error.specs.ErrorFault.{expand_into_fault}
use Rattle.subst_language.proofs.CallingLemmas.{same_look_up}
use Rattle.subst_language.specs.Calls.VariableMap.{look_up_of}
use Rattle.subst_language.specs.Language.LookUp.{LookUp}
use Rattle.subst_language.specs.Language.Written.{written}
use Rattle.subst_c.specs.Pairs.{pair_value}
use Rattle.subst_c.proofs.AnswerLemmas.{record_of_refusal}
use Rattle.subst_c.proofs.EachLemmas.{gives_value}
use Rattle.subst_c.proofs.into.expand_into_buffer.Goals as goal

pub returns-then-buffer-length-clause-too_small : goal.returns-then-buffer-length-clause-too_small
returns-then-buffer-length-clause-too_small c small =
    let (t, spells) = c.in-Ok.ensures.sentence in
    let (x, gives, counted, put) = c.in-Ok.ensures.value (λ v. v) (λ v. refl) t spells in
    record {
      items = x;
      wanted = gives_value c.args.template.now x (pair_value c.args.pairs.now) t spells gives;
      counted = counted;
      longer = search (rules, arith);
    }

pub returns-else-buffer-length-clause-done : goal.returns-else-buffer-length-clause-done
returns-else-buffer-length-clause-done c done =
    let (t, spells) = c.in-Ok.ensures.sentence in
    let (x, gives, counted, put) = c.in-Ok.ensures.value (λ v. v) (λ v. refl) t spells in
    let fits : c.in-Ok.length ≤ length c.args.buffer.now = search (rules, arith) in
    record {
      items = x;
      wanted = gives_value c.args.template.now x (pair_value c.args.pairs.now) t spells gives;
      counted = counted;
      put = put fits;
    }

pub returns-in-Err-clause-fault : goal.returns-in-Err-clause-fault
returns-in-Err-clause-fault c = record {
  refused = λ is.
      let (t, spells) = c.in-Err.ensures.sentence in
      let missing = c.in-Err.ensures.missing (pair_value c.args.pairs.now) (λ name. refl) t spells in
      let (f, of, told) = record_of_refusal (expand_into_fault c.in-Err.e) _ _ missing
      (c.refuse_missing.ensures.refused is) in
      (f, inr (t, spells, of), told);
  within = λ is. omega (arith, c.refuse_missing.ensures.end is, c.in-Err.ensures.range);
  fault_kept = c.refuse_missing.ensures.kept;
}

pub returns-in-Err-clause-memory : goal.returns-in-Err-clause-memory
returns-in-Err-clause-memory c out t spells =
    let look = pair_value c.args.pairs.now in
    let none = c.refuse_missing.ensures.memory (search rules) in
    let full = c.in-Err.ensures.full (λ v. v) (λ v. refl) t spells in
    let TooMany : LookUp → Type 0 = λ l. 2 ^ 64 ≤ length (written 0 t l) in
    subst TooMany (same_look_up look)
    (subst (λ o. IfNone o (TooMany (look_up_of (λ v. v) look))) none full)
