-- By induction on the tree, from the one answer that each string has.
use Rattle.subst_json.proofs.OneOutcomeLemmas.{one_outcome}
use Rattle.subst_json.proofs.laws.trees_have_one_outcome.Goals as goal

pub returns : goal.returns
returns c = record { outcome = one_outcome }
