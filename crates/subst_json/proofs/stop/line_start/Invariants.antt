use Rattle.std.proofs.Common.{◌≡◌, ◌-◌}
use denote.Text.{Utf8}
use denote.Shadow.{shadow}
use Rattle.std.specs.Fn.{iterate}
use Rattle.std.specs.List.{after_first}
use Rattle.subst_json.specs.Stop.{is_line_feed}
use Rattle.subst_json.proofs.stop.line_start.Given as goal

-- the lines that are left, without those before
abbrev pub invariant-loop-left : goal.invariant-loop-left
invariant-loop-left l =
    shadow (Utf8 l.rest) × (iterate (after_first is_line_feed) l.left l.rest
    ≡ iterate (after_first is_line_feed) (l.fn.line - 1) l.fn.text)

abbrev pub decreases-loop-left : goal.decreases-loop-left
decreases-loop-left l = l.left
