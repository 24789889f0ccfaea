-- The source of a warning, and its output.
use Rattle.std.proofs.Common.{Bool, true, false, ◌++◌, codes, refl}
use Rattle.subst.specs.Language.Answer.{Answers, Gives}
use Rattle.subst.proofs.Calling.{computed_gives}
use Rattle.subst_uses.specs.Colours.{coded, colours_of}

-- the word in red, or without a colour
pub warning_gives : (on : Bool) → Answers (codes "${red}Warning: $reset") (colours_of on)
    (Gives (coded on (codes "[31m") ++ (codes "Warning: " ++ coded on (codes "[0m"))))
warning_gives true = computed_gives _ _ _ refl
warning_gives false = computed_gives _ _ _ refl
