-- By induction on the path: the reader reads each step back from its text.
use Rattle.subst_json.proofs.FindLemmas.{pointer-leads}
use Rattle.subst_json.proofs.laws.pointers_find_strings.Goals as goal

pub returns : goal.returns
returns c = record { found = pointer-leads }
