-- The names with numbers below this one.
use Rattle.std.proofs.Common.{◌≡◌, take}
use Rattle.subst_language.specs.Language.Sentence.{ByTree}
use Rattle.subst_rows.specs.Columns.{bytes_of, names_at}
use Rattle.subst_rows.proofs.columns.names_of.Given as goal

abbrev pub invariant-loop-number : goal.invariant-loop-number
invariant-loop-number l = ByTree l.template (λ t. bytes_of l.names.items ≡ take l.number (names_at t))
