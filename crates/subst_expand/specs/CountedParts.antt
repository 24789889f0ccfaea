-- The expansion's list of parts, as contracts see it.
use Rattle.std.specs.Prelude.{ℕ, List}
use Rattle.subst_language.specs.declared.part.Part.{Part}

-- how contracts see a list of parts with a counter: its parts, and the number of turns counted so far
pub record PartsAndTurns : Type 0 where
  pub parts : List Part
  pub turns : ℕ
