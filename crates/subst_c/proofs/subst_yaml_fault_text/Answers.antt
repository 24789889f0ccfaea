-- The bytes written are the text of the document's fault.
use Rattle.subst_c.specs.Documents.{Yaml}
use Rattle.subst_c.specs.Pairs.{pair_value}
use Rattle.subst_c.proofs.BufferLemmas.{fills_as}
use Rattle.subst_c.proofs.DocumentLemmas.{text_of_result}
use Rattle.subst_c.proofs.subst_yaml_fault_text.Goals as goal

pub returns-in-Some-clause-buffer : goal.returns-in-Some-clause-buffer
returns-in-Some-clause-buffer c =
    fills_as (text_of_result Yaml (pair_value c.args.pairs.now) c.args.source.now c.fill_in.result
    (rw (c.in-Some.ensures.0, c.in-Some.ensures.1) at c.fill_in.ensures)) c.deliver_text.ensures.buffer
