-- The answer of a source under a look-up.
use Rattle.std.specs.Prelude.{◌≡◌, ◌⊎◌, ℕ, List}
use Rattle.subst_error.specs.Fault.{Fault, NoSuchVariable}
use Rattle.subst_language.specs.Language.Tree.{Tree}
use Rattle.subst_language.specs.Language.Sentence.{Spells}
use Rattle.subst_language.specs.Language.LookUp.{LookUp}
use Rattle.subst_language.specs.Language.Value.{Value, value, Bytes, Missing}
use Rattle.subst_language.specs.Language.BadItem.{HasFault}

pub data Answer : Type 0 where
  Gives : List ℕ → Answer
  Refuses : Fault → Answer

-- the value is a missing variable, which f states
abbrev pub IsMissing : Value → Fault → Type 0
IsMissing v f =
    (position : ℕ) × (name : List ℕ) × (v ≡ Missing position name) × (f ≡ NoSuchVariable position name)

-- The answer of a sentence is the bytes of its tree's value, or the refusal for the missing variable. The
-- answer of any other source is the refusal for its fault.
abbrev pub Answers : List ℕ → LookUp → Answer → Type 0
Answers s look (Gives x) = (t : Tree) × Spells t s × (value 0 t look ≡ Bytes x)
Answers s look (Refuses f) = HasFault 0 s f ⊎ ((t : Tree) × Spells t s × IsMissing (value 0 t look) f)
