-- The escape, placeholder or bad item at a position of a source.
use Rattle.std.specs.Prelude.{◌≡◌, ℕ, ◌+◌, List, ◌∷◌, ◌++◌, length, drop, IsSomeAnd}
use Rattle.subst_error.specs.Fault.{Fault}
use Rattle.subst_language.specs.Language.Bytes.{dollar, colon, question_mark, backslash, opening_brace, closing_brace, IsEscapable}
use Rattle.subst_language.specs.Language.Name.{IsName, IsNameByte, BeginsWithNo}
use Rattle.subst_language.specs.Language.BadItem.{IsBad}
use Rattle.subst_parse.specs.Halt.{halt_fault}
use Rattle.subst_language.specs.Parts.Span.{IsSpan, span_bytes}
use Rattle.subst_language.specs.declared.part.Span.{Span}
use Rattle.subst_parse.specs.declared.halt.Halt.{Halt}
use Rattle.subst_parse.specs.declared.item.Placeholder.{Placeholder}
use Rattle.subst_parse.specs.declared.item.Placeholder.TheVariants.{Short, Braced, Optional, Default}

-- at position `at`, the source s has an escape of the byte b
pub record IsEscape (s : List ℕ) (at b : ℕ) : Type 0 where
  pub special : IsEscapable b
  pub spelled : drop at s ≡ backslash ∷ b ∷ drop (at + 2) s

-- `name` is the span of a name in the source s
pub record IsNameAt (s : List ℕ) (name : Span) : Type 0 where
  pub inside : IsSpan s name
  pub valid : IsName (span_bytes name s)
  pub ends : name.end ≡ name.start + length (span_bytes name s)

-- at position `at`, the source s has a dollar and then the name, and no name byte after the name
pub record IsShort (s : List ℕ) (at : ℕ) (name : Span) : Type 0 where
  pub named : IsNameAt s name
  pub starts : name.start ≡ at + 1
  pub spelled : drop at s ≡ dollar ∷ span_bytes name s ++ drop name.end s
  pub longest : BeginsWithNo IsNameByte (drop name.end s)

-- at position `at`, the source s has a dollar, an opening brace, the name and the byte b, in this order
pub record IsInBraces (s : List ℕ) (at : ℕ) (name : Span) (b : ℕ) : Type 0 where
  pub named : IsNameAt s name
  pub starts : name.start ≡ at + 2
  pub spelled : drop at s ≡ dollar ∷ opening_brace ∷ span_bytes name s ++ b ∷ drop (name.end + 1) s

-- at position `at`, the source s has the placeholder `${name?}` with this name
pub record IsOptional (s : List ℕ) (at : ℕ) (name : Span) : Type 0 where
  pub head : IsInBraces s at name question_mark
  pub closed : drop (name.end + 1) s ≡ closing_brace ∷ drop (name.end + 2) s

-- the source s has this placeholder at position `at`, or its head up to the colon of its default
abbrev pub IsPlaceholder : List ℕ → ℕ → Placeholder → Type 0
IsPlaceholder s at (Short name) = IsShort s at name
IsPlaceholder s at (Braced name) = IsInBraces s at name closing_brace
IsPlaceholder s at (Optional name) = IsOptional s at name
IsPlaceholder s at (Default name) = IsInBraces s at name colon

-- The text r at position p begins with a bad item whose fault is f. So does each prefix of r that a closing
-- brace follows: it doesn't matter where a default around the item ends.
pub record IsBadWhenCut (p : ℕ) (r : List ℕ) (f : Fault) : Type 0 where
  pub bad : IsBad p r f
  pub cut : (x q : List ℕ) → r ≡ x ++ closing_brace ∷ q → IsBad p x f

-- the error states the fault of the bad item at position `at` of the source s. This fault doesn't depend on
-- where a default around the item ends
abbrev pub StatesBadItem : Halt → List ℕ → ℕ → Type 0
StatesBadItem e s at = IsSomeAnd (halt_fault e) (IsBadWhenCut at (drop at s))
