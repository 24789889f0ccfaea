-- The text of the steps so far is written.
use Rattle.std.proofs.Common.{map, take}
use Rattle.std.specs.Fmt.{HasWritten, IsPlainFormatter}
use Rattle.subst_document.specs.Paths.{step_of}
use Rattle.subst_json.specs.Pointer.{pointer_text}
use Rattle.subst_json.proofs.path.PathDisplay.fmt.Given as goal

abbrev pub invariant-loop-step : goal.invariant-loop-step
invariant-loop-step g l = IsPlainFormatter l.initial.f → HasWritten g.W.Write.write_str_gives l.initial.f
    (pointer_text (map step_of (take l.step-index l.fn.self.steps.items))) l.f
