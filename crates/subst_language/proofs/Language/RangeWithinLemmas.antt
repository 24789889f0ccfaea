-- The range of a refusal of a source: it ends within the source, even if the source is no text.
use Rattle.std.proofs.Common.{ℕ, ◌+◌, ◌≤◌, Option, Some, None, Result, Ok, Err, IfErr, IfSome, List, [], ◌∷◌, ◌++◌, length, ap, length-append, encode_utf8, inl, inr, arith}
use Rattle.subst_error.specs.Fault.{Fault}
use Rattle.subst_error.specs.ErrorFault.{parse_fault}
use Rattle.subst_error.specs.Range.{source_len, range_of}
use Rattle.subst_error.specs.declared.CharOrByte.{CharOrByte}
use Rattle.subst_error.specs.declared.CharOrByte.TheVariants.{Char, Byte}
use Rattle.subst_error.specs.declared.ParseError.{ParseError}
use Rattle.subst_language.specs.Language.Bytes.{colon, question_mark, closing_brace}
use Rattle.subst_language.specs.Language.Character.{IsFrontCharacter}
use Rattle.subst_language.specs.Language.Tree.{Item, Plain, Escaped, Short, Braced, Optional, Default, Tree, Empty, Then, item_text, text}
use Rattle.subst_language.specs.Language.LookUp.{LookUp}
use Rattle.subst_language.specs.Language.Value.{value}
use Rattle.subst_language.specs.Language.BadItem.{IsBad, HasFault}
use Rattle.subst_language.specs.Language.BadItem.IsBad.{escape_at_end, escape, dollar_at_end, dollar_alone, brace_at_end, brace_alone, name_at_end, name_alone, optional_at_end, optional_alone, unclosed, inside}
use Rattle.subst_language.specs.Language.BadItem.HasFault.{fault_after}
use Rattle.subst_language.specs.Language.Answer.{Answers, Refuses, IsMissing}
use Rattle.subst_language.specs.Language.Sentence.{Spells}
use Rattle.subst_language.specs.Calls.Outcome.{OnFault}
use Rattle.std.specs.List.{AllByRecursion}
use Rattle.subst_language.specs.Language.Variables.{Variable, name_range, item_variables, variables_of}
use Rattle.subst_language.proofs.Language.ListLemmas.{each_append, each_weaker}
use Rattle.subst_language.proofs.Language.MissingLemmas.{first_among}

-- the character at the front of bytes is at most as long as they are
front_fits : (bytes : List ℕ) (c : CharOrByte) → IsFrontCharacter bytes c → source_len c ≤ length bytes
front_fits bytes (Char c) (scalar, (rest, e)) =
    omega (arith, ap length e, length-append (encode_utf8 c) rest)
front_fits bytes (Byte b) (none, (rest, e)) = omega (arith, ap length e)

mutual
  -- the range of a bad item ends within the text that begins with it
  bad_within : {p : ℕ} {r : List ℕ} {f : Fault} → IsBad p r f → (range_of (Some f)).end ≤ p + length r
  bad_within escape_at_end = omega arith
  bad_within (escape {b = b} {x = x} {c = c} special front) = omega (arith, front_fits (b ∷ x) c front)
  bad_within dollar_at_end = omega arith
  bad_within (dollar_alone brace name) = omega arith
  bad_within brace_at_end = omega arith
  bad_within (brace_alone name) = omega arith
  bad_within (name_at_end n named) = omega arith
  bad_within (name_alone {b = b} {c = c} n x named name closing separator mark front) =
      omega (arith, front_fits (b ∷ x) c front, length-append n (b ∷ x))
  bad_within (optional_at_end n named) = omega arith
  bad_within (optional_alone {b = b} {c = c} n x named closing front) =
      omega (arith, front_fits (b ∷ x) c front, length-append n (question_mark ∷ b ∷ x))
  bad_within (unclosed n w named none) = omega arith
  bad_within (inside n w v named balanced fault) =
      omega (
        arith,
        fault_within fault,
        length-append n (colon ∷ w ++ closing_brace ∷ v),
        length-append w (closing_brace ∷ v),
      )

  -- the range of a fault ends within its source
  pub fault_within : {p : ℕ} {s : List ℕ} {f : Fault} → HasFault p s f
      → (range_of (Some f)).end ≤ p + length s
  fault_within (fault_after {r = r} t formed bad) = omega (arith, bad_within bad, length-append (text t) r)

-- the variable's name ends at this offset or before it
abbrev EndsBy : ℕ → Variable → Type 0
EndsBy end v = (name_range v).end ≤ end

mutual
  -- the names of an item's variables end within the item
  item_within : (item : Item) (p : ℕ)
      → AllByRecursion (EndsBy (p + length (item_text item))) (item_variables p item)
  item_within (Plain b) p = tt
  item_within (Escaped b) p = tt
  item_within (Short n) p = (omega arith, tt)
  item_within (Braced n) p = (omega (arith, length-append n (closing_brace ∷ [])), tt)
  item_within (Optional n) p = (omega (arith, length-append n (question_mark ∷ closing_brace ∷ [])), tt)
  item_within (Default n t) p =
      let long = length-append n (colon ∷ text t ++ closing_brace ∷ []) in
      let closed = length-append (text t) (closing_brace ∷ []) in
      let q = p + 3 + length n in (
        omega (arith, long),
        each_weaker _ _ (λ v ends. omega (arith, ends, long, closed)) (variables_of q t)
            (tree_within t q),
      )

  -- the names of a tree's variables end within its text
  tree_within : (t : Tree) (p : ℕ) → AllByRecursion (EndsBy (p + length (text t))) (variables_of p t)
  tree_within Empty p = tt
  tree_within (Then item rest) p =
      let next = p + length (item_text item) in
      let long = length-append (item_text item) (text rest) in
      each_append _ (item_variables p item) (variables_of next rest)
      (each_weaker _ _ (λ v ends. omega (arith, ends, long)) (item_variables p item) (item_within item p))
      (each_weaker _ _ (λ v ends. omega (arith, ends, long)) (variables_of next rest) (tree_within rest next))

-- the name of each variable of a source ends within the source
pub variables_within : (s : List ℕ) (t : Tree) → Spells t s
    → AllByRecursion (λ v. (name_range v).end ≤ length s) (variables_of 0 t)
variables_within s t spells =
    each_weaker _ _ (λ v ends. omega (arith, ends, ap length spells.spelled)) (variables_of 0 t)
    (tree_within t 0)

-- each refusal of a source has a range that ends within the source
pub refusal_within : (s : List ℕ) (look : LookUp) (f : Fault) → Answers s look (Refuses f)
    → (range_of (Some f)).end ≤ length s
refusal_within s look f (inl fault) = omega (arith, fault_within fault)
refusal_within s look f (inr (t, spells, (position, name, missing, same))) =
    rw same (first_among (λ v. (name_range v).end ≤ length s) 0 position t look name missing
    (variables_within s t spells))

-- an error of parsing has a range that ends within the source
pub parse_result_within : {T : Type 0} (s : List ℕ) (r : Result T ParseError)
    → OnFault parse_fault r (HasFault 0 s) → IfErr r (λ e. (range_of (parse_fault e)).end ≤ length s)
parse_result_within s (Ok x) h = tt
parse_result_within s (Err e) h = of (parse_fault e) h
  where
    of : (o : Option Fault) → IfSome o (HasFault 0 s) → (range_of o).end ≤ length s
    of None h = omega arith
    of (Some f) h = refusal_within s (λ name. None) f (inl h)

-- an error of expansion has a range that ends within the source
pub expand_error_within : (s : List ℕ) (t : Tree) (look : LookUp) (o : Option Fault) → Spells t s
    → IfSome o (IsMissing (value 0 t look)) → (range_of o).end ≤ length s
expand_error_within s t look None spells h = omega arith
expand_error_within s t look (Some f) spells h = refusal_within s look f (inr (t, spells, h))
