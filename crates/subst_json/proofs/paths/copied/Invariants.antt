use Rattle.std.proofs.Common.{◌≡◌, map, take}
use Rattle.subst_document.specs.Paths.{step_of}
use Rattle.subst_json.proofs.paths.copied.Given as goal

-- the steps so far are copied
abbrev pub invariant-loop-step : goal.invariant-loop-step
invariant-loop-step l = map step_of l.copied.items ≡ map step_of (take l.step-index l.step-items)
