-- The variable of the text has the index of the template's variable.
use Rattle.std.proofs.Common.{◌≡◌, arith, below_more, refl}
use Rattle.subst_language.specs.declared.variable.Variable.{Variable}
use Rattle.subst_c.proofs.StyleLemmas.{has_index, is_found, not_here, not_listed}
use Rattle.subst_c.proofs.style.variable_in_text.Goals as goal

pub loop-index-preserved : goal.loop-index-preserved
loop-index-preserved g c =
    below_more _ _ c.loop-index.invariant
    (not_here (λ (v : Variable). (v.position ≡ c.args.position) × (v.name.now ≡ c.args.name.now))
    c.deref-variable-items.result.now c.loop-index.index _ c.is_at.result c.loop-index-test.true c.if-is_at.false
    c.is_at.ensures.1)

pub returns-then-is_at-clause-index : goal.returns-then-is_at-clause-index
returns-then-is_at-clause-index g c =
    let is = rw c.deref-variable-items.ensures.value at (c.if-is_at.ensures.0 refl) in
    let got = rw c.deref.ensures.value at c.get.ensures.lookup in
    rw c.copied.ensures (has_index _ c.args.text.now c.args.template.now c.args.position c.args.name.now
    c.in_ok-listed.listed.items c.in_ok-variables.variables.items c.loop-index.index _ c.get.result _
    c.in_ok-listed.ensures.variables c.in_ok-variables.ensures.listed
    (rw c.deref-variable-items.ensures.value at c.loop-index-test.true) is.0 is.1 got.1 got.3)

pub returns-then-is_at-clause-found : goal.returns-then-is_at-clause-found
returns-then-is_at-clause-found g c = λ is has.
    let got = rw c.deref.ensures.value at c.get.ensures.lookup in
    rw c.copied.ensures (is_found _ c.args.style.missing c.args.text.now c.args.template.now
    c.in_ok-listed.listed.items c.in_ok-variables.variables.items c.loop-index.index c.get.result _
    c.variables_are_in_one_order.ensures.as_many c.in_ok-listed.ensures.variables c.in_ok-variables.ensures.listed
    (rw c.deref-variable-items.ensures.value at c.loop-index-test.true) got.3 is)

pub returns-clause-found : goal.returns-clause-found
returns-clause-found g c = λ is has.
    let past = rw c.deref-variable-items.ensures.value at c.loop-index-test.false in
    let none = rw c.deref-variable-items.ensures.value at c.loop-index.invariant in
    absurd (not_listed c.args.template.now c.in_ok-listed.listed.items c.args.position c.args.name.now
    c.in_ok-listed.ensures.variables (λ k below. none k (omega (arith, past, below))) has)
