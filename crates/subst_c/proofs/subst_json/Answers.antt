-- The bytes written are the document, filled in.
use Rattle.subst_c.specs.Documents.{Json}
use Rattle.subst_c.specs.Pairs.{pair_value}
use Rattle.subst_c.proofs.BufferLemmas.{fills_as}
use Rattle.subst_c.proofs.DocumentLemmas.{filled_by}
use Rattle.subst_c.proofs.subst_json.Goals as goal

pub returns-in-Some-clause-buffer : goal.returns-in-Some-clause-buffer
returns-in-Some-clause-buffer c =
    fills_as (filled_by Json (pair_value c.args.pairs.now) c.args.source.now c.fill_in.result
    (rw (c.in-Some.ensures.0, c.in-Some.ensures.1) at c.fill_in.ensures)) c.deliver.ensures.buffer
