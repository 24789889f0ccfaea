-- Bytes that are plain inside a default, and no braces.
use Rattle.std.proofs.Common.{◌≡◌, ◌≢◌, ℕ, List, [], ◌∷◌, arith}
use Rattle.std.specs.List.{AllByRecursion}
use Rattle.subst_language.specs.Language.Bytes.{dollar, backslash, opening_brace, closing_brace, IsPlain}
use Rattle.subst_language.specs.Language.Balanced.{IsBalanced}
use Rattle.subst_language.specs.Language.Balanced.IsBalanced.{empty, byte}
use Rattle.subst_parse.specs.ByteRun.{IsRun}
use Rattle.subst_parse.specs.Inner.{IsInner}

-- an inner byte is plain
pub inner_plain : (b : ℕ) → IsInner b → IsPlain b
inner_plain b inner = (λ is. cc, λ is. cc)

-- inner bytes are plain
all_plain : (x : List ℕ) → AllByRecursion IsInner x → AllByRecursion IsPlain x
all_plain [] each = tt
all_plain (b ∷ x) each = (inner_plain b each.0, all_plain x each.1)

-- a run of inner bytes is one of plain bytes
pub run_of_inner : {s : List ℕ} {at to : ℕ} → IsRun IsInner s at to → IsRun IsPlain s at to
run_of_inner run = record {
  run = run.run;
  each = all_plain run.run run.each;
  spelled = run.spelled;
  ends = run.ends;
}

-- inner bytes are balanced
pub inner_balanced : (x : List ℕ) → AllByRecursion IsInner x → IsBalanced x
inner_balanced [] each = empty
inner_balanced (b ∷ x) each =
    byte (inner_plain b each.0).1 (λ is. cc) (λ is. cc) (inner_balanced x each.1)

-- a byte that ends a run of inner bytes, and is no other of the four, is a closing brace
pub closing_if_not_inner : (b : ℕ) → ¬ (IsInner b) → b ≢ backslash → b ≢ dollar → b ≢ opening_brace
    → b ≡ closing_brace
closing_if_not_inner b marked no_backslash no_dollar no_opening = grind (arith)
