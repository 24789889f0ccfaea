-- The answer of a source in the earlier language, under a look-up.
use Rattle.std.specs.Prelude.{◌≡◌, ◌⊎◌, ℕ, List}
use Rattle.subst_language.specs.Earlier.Tree.{Tree}
use Rattle.subst_language.specs.Earlier.Sentence.{Spells}
use Rattle.subst_language.specs.Language.LookUp.{LookUp}
use Rattle.subst_language.specs.Language.Value.{Bytes}
use Rattle.subst_language.specs.Language.Answer.{Answer, Gives, Refuses, IsMissing}
use Rattle.subst_language.specs.Earlier.Value.{value}
use Rattle.subst_language.specs.Earlier.BadItem.{HasFault}

-- The answer of a sentence is the bytes of its tree's value, or the refusal for the missing variable. The
-- answer of any other source is the refusal for its fault.
abbrev pub Answers : List ℕ → LookUp → Answer → Type 0
Answers s look (Gives x) = (t : Tree) × Spells t s × (value 0 t look ≡ Bytes x)
Answers s look (Refuses f) = HasFault 0 s f ⊎ ((t : Tree) × Spells t s × IsMissing (value 0 t look) f)
