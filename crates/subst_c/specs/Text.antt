-- The texts that describe a source's fault, and whether sources and values are UTF-8.
use Rattle.std.specs.Prelude.{◌≡◌, ℕ, Bool, ◌&&◌, List, [], Some}
use Rattle.std.specs.List.{list_all}
use Rattle.std.specs.Str.{is_utf8}
use Rattle.subst_error.specs.Fault.{Fault}
use Rattle.subst_error.specs.Highlighting.{highlighting_of}
use Rattle.subst_language.specs.Language.Answer.{Answer, Gives, Refuses}
use Rattle.subst_c.specs.declared.pairs.Pair.{Pair}

-- `text` is the line of the fault f in the source s, with the fault underlined, or empty if the line is too
-- wide
abbrev pub IsHighlighting : List ℕ → Fault → List ℕ → Type 0
IsHighlighting s f text = text ≡ highlighting_of (Some f) s

-- `text` is empty if the answer is an output; if the answer is a fault f, `IsText` holds of f and `text`
abbrev pub IsFaultText : (Fault → List ℕ → Type 0) → Answer → List ℕ → Type 0
IsFaultText IsText (Gives x) text = text ≡ []
IsFaultText IsText (Refuses f) text = IsText f text

-- `IsFaultText` holds of an answer and `text`, and `IsAnswer` holds of that answer
abbrev pub IsFaultTextOf : (Answer → Type 0) → (Fault → List ℕ → Type 0) → List ℕ → Type 0
IsFaultTextOf IsAnswer IsText text = (a : Answer) × IsAnswer a × IsFaultText IsText a text

-- the values of pairs are UTF-8
abbrev pub have_texts : List Pair → Bool
have_texts pairs = list_all (λ pair. is_utf8 pair.value.now) pairs

-- a source and the values of pairs are UTF-8
abbrev pub are_texts : List ℕ → List Pair → Bool
are_texts s pairs = is_utf8 s && have_texts pairs
