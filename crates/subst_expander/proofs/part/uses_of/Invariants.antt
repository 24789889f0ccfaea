-- The uses so far are the variables so far.
use Rattle.std.proofs.Common.{◌≡◌, map}
use Rattle.subst.specs.Calls.Variables.{variable_of}
use Rattle.subst_expander.specs.Listing.{listed}
use Rattle.subst_expander.proofs.part.uses_of.Given as goal

abbrev pub invariant-loop-variable : goal.invariant-loop-variable
invariant-loop-variable l = map listed l.uses.items ≡ map variable_of l.yielded
