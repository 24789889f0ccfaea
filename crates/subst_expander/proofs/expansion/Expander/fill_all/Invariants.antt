-- The sources so far are done.
use Rattle.std.proofs.Common.{List}
use Rattle.subst_expander.specs.Layers.{Entry, AreVariablesOf}
use Rattle.subst_expander.proofs.ExpansionLemmas.{AreDone}
use Rattle.subst_expander.proofs.expansion.Expander.fill_all.Given as goal

abbrev pub invariant-loop-source : goal.invariant-loop-source
invariant-loop-source l = (entries : List Entry) → AreVariablesOf l.self.variables entries
    → AreDone l.self.formats l.self.placeholders.now entries l.yielded l.all.items l.refused.items
