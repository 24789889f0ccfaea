-- Pairs of names and values from C: their look-up, and the outputs and faults of sources under it.
use Rattle.std.specs.Prelude.{ℕ, List, IsUtf8}
use Rattle.subst_error.specs.Fault.{Fault}
use Rattle.subst_language.specs.Language.Answer.{Answers, Gives, Refuses}
use Rattle.subst_language.specs.Language.LookUp.{LookUp}
use Rattle.subst_language.specs.Maps.{first_value_by}
use Rattle.subst_c.specs.declared.pairs.Pair.{Pair}

-- the look-up of pairs: the value of the first pair with the name that is looked up
abbrev pub pair_value : List Pair → LookUp
pair_value pairs = first_value_by (λ pair. pair.name.now) (λ pair. pair.value.now) pairs

-- x is the output of the source s with the pairs
abbrev pub GivenBy : List ℕ → List Pair → List ℕ → Type 0
GivenBy s pairs x = Answers s (pair_value pairs) (Gives x)

-- x is the output, and is UTF-8
abbrev pub TextGivenBy : List ℕ → List Pair → List ℕ → Type 0
TextGivenBy s pairs x = IsUtf8 x × GivenBy s pairs x

-- f is the fault that the source is refused for
abbrev pub RefusedBy : List ℕ → List Pair → Fault → Type 0
RefusedBy s pairs f = Answers s (pair_value pairs) (Refuses f)
