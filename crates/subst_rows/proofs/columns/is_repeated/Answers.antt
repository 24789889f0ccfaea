-- A name that can be spelled is repeated if and only if it is found before.
use Rattle.std.proofs.Common.{refl}
use Rattle.std.proofs.lemmas.Bool.{false≢true}
use Rattle.subst_rows.proofs.ColumnLemmas.{is_repeated, not_repeated}
use Rattle.subst_rows.proofs.columns.is_repeated.Goals as goal

pub returns-then-is_name : goal.returns-then-is_name
returns-then-is_name c =
    is_repeated c.args.head.now c.args.index _ c.requires (c.if-is_name.ensures.name.0 refl)
    c.is_some.result c.index_of.result c.index_of.ensures c.is_some.ensures

pub returns-else-is_name : goal.returns-else-is_name
returns-else-is_name c = (
  λ true. absurd cc,
  λ is. absurd (not_repeated c.args.head.now c.args.index _ c.requires
      (λ spelled. absurd (false≢true (c.if-is_name.ensures.name.1 spelled))) is),
)
