-- The length of a tree's value, and of the variables' values in it.
use Rattle.std.specs.Prelude.{ℕ, List, [], length, sum_by, unwrap_or}
use Rattle.subst_language.specs.Language.LookUp.{LookUp}
use Rattle.subst_language.specs.Language.Steps.{Step, Own, Given, steps_of}
use Rattle.subst_language.specs.Language.Tree.{Tree}

-- the length of the look-up's value for the name, 0 if there is none
abbrev pub length_of : LookUp → List ℕ → ℕ
length_of look name = length (unwrap_or (look name) [])

-- the length of the variable's value in a step, 0 if the step has none
abbrev pub given_length : Step → ℕ
given_length (Given x) = length x
given_length step = 0

-- the number of bytes that a step writes
abbrev pub step_length : Step → ℕ
step_length (Own b) = 1
step_length step = given_length step

-- the length of a tree's value, if that is bytes: the number of visited plain and escaped bytes, plus the
-- lengths of the values of visited variables
abbrev pub value_length : Tree → LookUp → ℕ
value_length t look = sum_by step_length (steps_of 0 t look)

-- the sum of the lengths of the values of a tree's visited variables
abbrev pub visited_length : Tree → LookUp → ℕ
visited_length t look = sum_by given_length (steps_of 0 t look)
