-- Each step reads a token.
use Rattle.std.proofs.Common.{◌≡◌, ℕ, zero, suc, ◌-◌, ◌<◌, ◌==◌, true, false, List, length, Some, ◌∙◌, rules, arith}
use Rattle.std.proofs.lemmas.Grind.{common_steps}
use Rattle.toml_parser.specs.Lexical.{skip_blank}
use Rattle.subst_toml.specs.Filled.{Scanner, scanner_of, step, strings_from}
use Rattle.subst_toml.proofs.document.tokens.all_strings.Goals as goal

ended : (n : ℕ) (p : Scanner) (text : List ℕ) → 0 < n → (length (skip_blank text) == 0) ≡ true
    → strings_from n p text ≡ Some p.found
unfolding strings_from
ended zero p text some none = absurd (omega arith)
ended (suc n) p text some none = rw none

more : (n : ℕ) (p next : Scanner) (text rest : List ℕ) → 0 < n → (length (skip_blank text) == 0) ≡ false
    → step p (skip_blank text) ≡ Some (next, rest) → strings_from n p text ≡ strings_from (n - 1) next rest
unfolding strings_from
more zero p next text rest some other read = absurd (omega arith)
more (suc n) p next text rest some other read =
    let less : suc n - 1 ≡ n = omega arith in
    rw (other, read, less)

pub tokens-init : goal.tokens-init
tokens-init c = (
  search rules,
  suc (length c.args.source.now),
  omega (arith, c.without_mark-rest.ensures.within),
  rw (c.without_mark-rest.ensures.rest, c.new.ensures.items, c.new-2.ensures.items),
)

pub returns-then-is_empty : goal.returns-then-is_empty
returns-then-is_empty c =
    let l = c.tokens in
    let start_is = c.skip_blank-start.ensures.rest in
    let none : (length (skip_blank l.rest.now) == 0) ≡ true = grind (arith, common_steps) in
    l.invariant.3
    ∙ ended l.invariant.1 (scanner_of l.scanner) l.rest.now (omega (arith, l.invariant.2)) none

pub tokens-preserved : goal.tokens-preserved
tokens-preserved c =
    let l = c.tokens in
    let start_is = c.skip_blank-start.ensures.rest in
    let other : (length (skip_blank l.rest.now) == 0) ≡ false = grind (arith, common_steps) in
    let room = l.invariant.2 in
    let within = c.skip_blank-start.ensures.within in
    let shorter = c.in_ok-rest.ensures.shorter in (
      search rules,
      l.invariant.1 - 1,
      omega arith,
      l.invariant.3
          ∙ more l.invariant.1 (scanner_of l.scanner) _ l.rest.now _ (omega arith) other
          (rw start_is at c.in_ok-rest.ensures.reads),
    )
