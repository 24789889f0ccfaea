-- The braces after a dollar end with the text.
use Rattle.std.proofs.Common.{rules, ◌≡◌, ◌∷◌, ◌+◌, length, sym, subst, arith}
use Rattle.subst_language.specs.Language.Bytes.{dollar, opening_brace}
use Rattle.subst_document.specs.Splice.{IsPlaceholder}
use Rattle.subst_document.proofs.PlaceholderLemmas.{bare_placeholder}
use Rattle.subst_document.proofs.placeholder.is_bare.Goals as goal

pub returns-in-Some-bare_closing_brace : goal.returns-in-Some-bare_closing_brace
returns-in-Some-bare_closing_brace c = λ is.
    let found = c.in-Some-bare_closing_brace in
    let inner = c.in-Some-split_first.inner.now in
    let first_is : c.in-Some.first.now ≡ dollar = search rules in
    let second_is : c.in-Some-split_first.second.now ≡ opening_brace = search rules in
    let last : found.at + 1 ≡ length inner = first_of (search (rules, is), grind (arith, is)) in
    let text_is : c.args.text.now ≡ dollar ∷ opening_brace ∷ inner = search rules in
    subst IsPlaceholder (sym text_is)
    (bare_placeholder inner found.at last found.ensures.closes found.ensures.balanced)
