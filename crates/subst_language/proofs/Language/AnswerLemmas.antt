-- A source has at most one answer under a look-up.
use Rattle.std.proofs.Common.{◌≡◌, ◌⊎◌, ℕ, List, Option, Some, None, Result, Ok, Err, IfSome, inl, inr, sym, ap, ◌∙◌, refl}
use Rattle.subst_language.specs.Language.Tree.{Tree}
use Rattle.subst_language.specs.Language.Sentence.{Spells, IsSentence, ByTree}
use Rattle.subst_language.specs.Language.LookUp.{LookUp}
use Rattle.subst_language.specs.Language.Value.{Value, value, Bytes, Missing}
use Rattle.subst_error.specs.Fault.{Fault, NoSuchVariable}
use Rattle.subst_language.specs.Language.BadItem.{HasFault}
use Rattle.subst_language.specs.Language.Answer.{Answer, Answers, Gives, Refuses, IsMissing}
use Rattle.subst_language.specs.Calls.Outcome.{OnFault}
use Rattle.subst_language.proofs.Language.OneTreeLemmas.{tree_unique}
use Rattle.subst_language.proofs.Language.FaultLemmas.{exclusive, fault_unique}

-- the answer of a value
abbrev value_answer : Value → Answer
value_answer (Bytes x) = Gives x
value_answer (Missing position name) = Refuses (NoSuchVariable position name)

-- an answer is that of a tree's value, or of a fault
abbrev OfTree : List ℕ → LookUp → Answer → Type 0
OfTree s look a = (t : Tree) × Spells t s × (value_answer (value 0 t look) ≡ a)

abbrev OfFault : List ℕ → Answer → Type 0
OfFault s a = (f : Fault) × HasFault 0 s f × (Refuses f ≡ a)

which : (s : List ℕ) (look : LookUp) (a : Answer) → Answers s look a → OfTree s look a ⊎ OfFault s a
which s look (Gives x) (t, h, v) = inl (t, h, ap value_answer v)
which s look (Refuses f) (inl h) = inr (f, h, refl)
which s look (Refuses f) (inr (t, h, (position, name, v, e))) =
    inl (t, h, ap value_answer v ∙ ap Refuses (sym e))

-- a source is a sentence or has a fault, and never both; it has one tree, or one fault
joined : (s : List ℕ) (look : LookUp) (a b : Answer) → OfTree s look a ⊎ OfFault s a
    → OfTree s look b ⊎ OfFault s b → a ≡ b
joined s look a b (inl (t, h, e)) (inl (u, k, d)) =
    sym e ∙ ap (λ x. value_answer (value 0 x look)) (tree_unique s t u h k) ∙ d
joined s look a b (inl (t, h, e)) (inr (f, k, d)) = absurd (exclusive s t 0 f h k)
joined s look a b (inr (f, h, e)) (inl (t, k, d)) = absurd (exclusive s t 0 f k h)
joined s look a b (inr (f, h, e)) (inr (g, k, d)) = sym e ∙ ap Refuses (fault_unique s 0 f g h k) ∙ d

-- a source has at most one answer
pub answer_unique : (s : List ℕ) (look : LookUp) (a b : Answer) → Answers s look a → Answers s look b → a ≡ b
answer_unique s look a b h k = joined s look a b (which s look a h) (which s look b k)

-- a sentence is refused for its tree's missing variable
pub refused_for : (s : List ℕ) (t : Tree) (look : LookUp) → Spells t s → (stated : Option Fault)
    → IfSome stated (IsMissing (value 0 t look)) → IfSome stated (λ f. Answers s look (Refuses f))
refused_for s t look spells None missing = tt
refused_for s t look spells (Some f) missing = inr (t, spells, missing)

-- if an error states the missing variable of a sentence's tree, the sentence is refused for it
pub refused_into : {T E : Type 0} (fault_of : E → Option Fault) (s : List ℕ) (look : LookUp) (r : Result T E)
    → IsSentence s → ByTree s (λ t. OnFault fault_of r (IsMissing (value 0 t look)))
    → OnFault fault_of r (λ f. Answers s look (Refuses f))
refused_into fault_of s look (Ok done) sentence h = tt
refused_into fault_of s look (Err e) (t, spells) h = refused_for s t look spells (fault_of e) (h t spells)
