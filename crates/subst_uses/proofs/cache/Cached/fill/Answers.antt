-- Under maps that agree on its variables, the template has the same value.
use Rattle.std.proofs.Common.{◌≡◌, ℕ, List, Result, Ok, Err, IfSome, refl, sym, ap, subst, ◌∙◌, string_bytes}
use Rattle.std.specs.Result.{IsErrAnd}
use Rattle.subst.specs.Calls.Outcome.{Expands}
use Rattle.subst.specs.ErrorFault.{expand_fault}
use Rattle.subst.specs.Errors.{ExpandError}
use Rattle.subst.specs.Language.Answer.{IsMissing}
use Rattle.subst.specs.Language.Value.{Value, Bytes}
use Rattle.subst_uses.specs.CommandLine.{texts_of}
use Rattle.subst_uses.proofs.NameLemmas.{all_mapped_twice}
use Rattle.subst_uses.proofs.cache.Cached.fill.Goals as goal

-- the error of an expansion is returned
handed_on : {T : Type 0} (bytes_of : T → List ℕ) (result : Result T ExpandError) (e : ExpandError) (v : Value)
    → IsErrAnd result (λ x. x ≡ e) → IfSome (expand_fault e) (IsMissing v) → Expands bytes_of result v
handed_on bytes_of (Ok x) e v same missing = absurd same
handed_on bytes_of (Err x) e v same missing =
    subst (λ y. IfSome (expand_fault y) (IsMissing v)) (sym same) missing

pub returns-then-agree-clause-value : goal.returns-then-agree-clause-value
returns-then-agree-clause-value c = λ t spells.
    let old = texts_of c.self.inside.variables in
    let new = texts_of c.args.variables in
    let agree = rw c.deref.ensures.value at (c.agree.ensures.0 c.if-agree.true) in
    let (listed, gave) = c.self.invariant t (rw (← ap (λ v. v.0) c.self.view_is) at spells) in
    let each =
    (all_mapped_twice (λ (n : List ℕ). old n ≡ new n) _ _ _ _ _ listed
    (c.missing_lists_are_whole.ensures.names 0 t)).0 agree in
    sym (c.law_4.ensures.same 0 t old new each) ∙ gave ∙ ap (λ v. Bytes v.1) c.self.view_is

pub returns-in_err-self-inside-clause-value : goal.returns-in_err-self-inside-clause-value
returns-in_err-self-inside-clause-value c = λ t spells.
    handed_on _ c.from_residual.result c.in_err-self-inside.field-0.0 _ c.from_residual.ensures.1
    (c.in_err-self-inside.ensures.value (λ v. string_bytes v) (λ v. refl) t
    (rw (← ap (λ v. v.0) c.self.view_is) at spells))

pub invariant_of-self : goal.invariant_of-self
invariant_of-self c = λ t spells. (
  (c.self.invariant t spells).0,
  c.in_ok-self-inside.ensures.value (λ v. string_bytes v) (λ v. refl) t spells,
)

pub returns-clause-value : goal.returns-clause-value
returns-clause-value c = λ t spells.
    c.in_ok-self-inside.ensures.value (λ v. string_bytes v) (λ v. refl) t
    (rw (← ap (λ v. v.0) c.self.view_is) at spells)
