use Rattle.std.proofs.Common.{◌∷◌, ◌+◌, List, ℕ, take, sym, subst}
use Rattle.subst_language.specs.Language.Bytes.{dollar}
use Rattle.subst_document.specs.Splice.{IsPlaceholder}
use Rattle.subst_document.specs.Splice.IsPlaceholder.{dollars}
use Rattle.subst_document.proofs.PlaceholderLemmas.{braces_placeholder, name_placeholder}
use Rattle.subst_document.proofs.placeholder.variable_len.Goals as goal

pub returns-in-36-clause-placeholder : goal.returns-in-36-clause-placeholder
returns-in-36-clause-placeholder c =
    let is = rw c.in-36.is at c.in_ok-first.ensures.cases.0 in
    subst (λ (x : List ℕ). IsPlaceholder (dollar ∷ take 1 x)) (sym is) dollars

pub returns-in_ok-closing_brace-in-123-clause-placeholder :
    goal.returns-in_ok-closing_brace-in-123-clause-placeholder
returns-in_ok-closing_brace-in-123-clause-placeholder c =
    let is = rw c.in-123.is at c.in_ok-first.ensures.cases.0 in
    let found = c.in_ok-closing_brace-in-123 in
    subst (λ (x : List ℕ). IsPlaceholder (dollar ∷ take (found.field-0 + 2) x)) (sym is)
    (braces_placeholder c.in_ok-first.inner.now found.field-0 found.ensures.within found.ensures.closes
    found.ensures.balanced)

pub returns-then-len-gt0-clause-placeholder : goal.returns-then-len-gt0-clause-placeholder
returns-then-len-gt0-clause-placeholder c =
    let run = c.name_len-len.ensures in
    name_placeholder c.args.text.now c.name_len-len.result run.run c.if-len-gt0.true run.within
