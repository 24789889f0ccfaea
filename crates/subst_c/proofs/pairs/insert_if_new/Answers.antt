-- The names are compared by their bytes.
use Rattle.std.proofs.Common.{rules}
use Rattle.std.specs.BTreeMap.Entry.{map_with_value}
use Rattle.subst_c.proofs.IndexLemmas.{adds_if_new}
use Rattle.subst_c.proofs.pairs.insert_if_new.Goals as goal

pub returns : goal.returns
returns c = λ other.
    let value = c.or_insert.result.now in
    let added =
    adds_if_new c.args.index.now (map_with_value c.in_ok-index.field-0 value) c.args.name c.args.value value
    (c.in_ok-index.ensures.update.0 value) (search rules) other in
    search (rules, added)
