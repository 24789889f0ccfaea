use Rattle.subst_indexed.proofs.CellsMadeLemmas.{harmless_template}
use Rattle.subst_indexed.proofs.laws.any_cells_are_harmless.Goals as goal

-- by each visited cell
pub returns : goal.returns
returns c = record { harmless = λ s cells values. harmless_template s values cells }
