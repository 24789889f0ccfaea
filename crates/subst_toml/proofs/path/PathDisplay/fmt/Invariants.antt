-- The text of the steps so far is written. A dot precedes the next key, unless it is the first step.
use Rattle.std.proofs.Common.{◌≡◌, ℕ, List, [], ◌∷◌, codes, map, take}
use Rattle.std.specs.Fmt.{HasWritten, IsPlainFormatter}
use Rattle.subst_document.specs.Paths.{PathStep, step_of}
use Rattle.subst_toml.specs.DottedKey.{dotted_text}
use Rattle.subst_toml.proofs.path.PathDisplay.fmt.Given as goal

-- the separator before the next key
abbrev pub dot_after : List PathStep → List ℕ
dot_after [] = []
dot_after (step ∷ path) = codes "."

abbrev pub invariant-loop-step : goal.invariant-loop-step
invariant-loop-step g l = (l.dot ≡ dot_after (map step_of (take l.step-index l.fn.self.steps.items)))
    × (IsPlainFormatter l.initial.f → HasWritten g.W.Write.write_str_gives l.initial.f
    (dotted_text (map step_of (take l.step-index l.fn.self.steps.items))) l.f)
