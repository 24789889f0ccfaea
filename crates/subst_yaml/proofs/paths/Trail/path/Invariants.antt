use Rattle.std.proofs.Common.{◌≡◌, map, take}
use Rattle.subst_document.specs.Paths.{step_of}
use Rattle.subst_yaml.specs.Paths.{path_step}
use Rattle.subst_yaml.proofs.paths.Trail.path.Given as goal

-- the steps so far are those of the path
abbrev pub invariant-loop-step : goal.invariant-loop-step
invariant-loop-step l = map step_of l.steps.items ≡ map (path_step l.text) (take l.step-index l.self.steps.items)
