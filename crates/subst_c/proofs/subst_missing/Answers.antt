-- The list of the library is that of the missing variables of the source's tree.
use Rattle.std.proofs.Common.{refl}
use Rattle.subst_language.specs.Calls.Variables.{missing_variable}
use Rattle.subst_language.specs.Language.Variables.{all_missing}
use Rattle.subst_c.specs.Pairs.{pair_value}
use Rattle.subst_c.proofs.BufferLemmas.{fills_with}
use Rattle.subst_c.proofs.RecordsLemmas.{has_records, none_where_it_gives}
use Rattle.subst_c.proofs.subst_missing.Goals as goal

pub returns-in-Ok-missing-clause-buffer : goal.returns-in-Ok-missing-clause-buffer
returns-in-Ok-missing-clause-buffer c =
    let look = pair_value c.args.pairs.now in
    fills_with (has_records missing_variable (λ t. all_missing 0 t look) c.args.source.now _
    c.deref.result.now _ c.in-Ok.ensures.ok.1 c.deref.ensures.value c.in-Ok.ensures.ok.0
    (c.in-Ok-missing.ensures.missing look (λ name. refl)) c.in-Ok-missing.ensures.range)
    c.deliver.ensures.buffer

pub returns-in-Ok-missing-clause-none : goal.returns-in-Ok-missing-clause-none
returns-in-Ok-missing-clause-none c done =
    let put = (returns-in-Ok-missing-clause-buffer c).done done in
    none_where_it_gives (pair_value c.args.pairs.now) c.args.source.now put.items _ put.wanted put.counted
