-- The variables have a value for each name so far.
use Rattle.std.proofs.Common.{ℕ, ◌<◌, IsSome, get_or}
use Rattle.subst_uses.specs.CommandLine.{texts_of}
use Rattle.subst_uses.proofs.missing.have_all.Given as goal

abbrev pub invariant-loop-variable : goal.invariant-loop-variable
invariant-loop-variable l =
    (k : ℕ) (d : _) → k < l.variable-index → IsSome (texts_of l.variables (get_or l.needed k d).name.now)
