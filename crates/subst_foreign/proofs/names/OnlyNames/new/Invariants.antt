-- The set has the names so far.
use Rattle.std.proofs.Common.{◌≡◌, ℕ, List, take}
use Rattle.subst_foreign.proofs.NamesLemmas.{is_listed}
use Rattle.subst_foreign.proofs.names.OnlyNames.new.Given as goal

abbrev pub invariant-loop-name : goal.invariant-loop-name
invariant-loop-name l = (name : List ℕ) → is_listed name l.set.keys ≡ is_listed name (take l.name-index l.names)
