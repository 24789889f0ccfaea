-- A plain source is its own output, and so is one without a dollar if names are chosen.
use Rattle.std.proofs.Common.{refl}
use Rattle.subst_expander.proofs.FillLemmas.{text_output}
use Rattle.subst_expander.proofs.ExpansionLemmas.{plain_output}
use Rattle.subst_expander.proofs.expansion.Expander.are_unchanged.Goals as goal

pub returns-then-is_plain : goal.returns-then-is_plain
returns-then-is_plain c = record {
  itself = λ t entries.
      let source = c.args.source.now in
      let plain = plain_output entries source (c.is_plain.ensures.plain.0 c.if-is_plain.true) in
      let text = c.is_text.ensures t in
      rw (c.in-Text-Own.is-0, c.in-Text-Own.is-1) (source, refl, (text, plain));
}

pub returns-then-has_no_dollar : goal.returns-then-has_no_dollar
returns-then-has_no_dollar c = record {
  itself = λ t entries.
      let source = c.args.source.now in
      let given = text_output _ entries source (c.has_no_dollar.ensures c.if-has_no_dollar.true) in
      let text = c.is_text-then-has_no_dollar.ensures t in
      rw (c.in-Text-Chosen.is-0, c.in-Text-Chosen.is-1) (source, refl, (text, given));
}

pub returns-in-Bytes-Own : goal.returns-in-Bytes-Own
returns-in-Bytes-Own c = record {
  itself = λ t entries.
      let source = c.args.source.now in
      rw (c.in-Bytes-Own.is-0, c.in-Bytes-Own.is-1)
      (source, refl, plain_output entries source (c.is_plain-in-Bytes-Own.ensures.plain.0 t));
}

pub returns-in-Bytes-Chosen : goal.returns-in-Bytes-Chosen
returns-in-Bytes-Chosen c = record {
  itself = λ t entries.
      let source = c.args.source.now in
      rw (c.in-Bytes-Chosen.is-0, c.in-Bytes-Chosen.is-1)
      (source, refl, text_output _ entries source (c.has_no_dollar-in-Bytes-Chosen.ensures t));
}
