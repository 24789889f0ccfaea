-- The maps agree on each variable so far.
use Rattle.std.proofs.Common.{◌≡◌, ℕ, ◌<◌, get_or}
use Rattle.subst_uses.specs.CommandLine.{texts_of}
use Rattle.subst_uses.proofs.cache.agree.Given as goal

abbrev pub invariant-loop-variable : goal.invariant-loop-variable
invariant-loop-variable l =
    (k : ℕ) (d : _) → k < l.variable-index
    → texts_of l.a (get_or l.variables k d).name.now ≡ texts_of l.b (get_or l.variables k d).name.now
