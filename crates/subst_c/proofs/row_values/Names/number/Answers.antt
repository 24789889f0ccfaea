-- A name is at its number, since names are distinct.
use Rattle.subst_c.proofs.RowValuesLemmas.{number_guessed}
use Rattle.subst_c.proofs.row_values.Names.number.Goals as goal

pub returns-then-eq : goal.returns-then-eq
returns-then-eq c =
    number_guessed c.args.self.now.list.items c.deref.result.now c.in-Some.guess.now c.in-Some-get.expected.now
    c.args.name.now c.args.self.now.distinct c.deref.ensures.value c.in-Some-get.ensures.lookup.0
    c.in-Some-get.ensures.lookup.1 c.if-eq.ensures
