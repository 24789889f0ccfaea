-- A plain string is its own output, and so is one without a dollar if names are chosen.
use Rattle.std.proofs.Common.{refl}
use Rattle.subst_expander.proofs.FillLemmas.{text_output}
use Rattle.subst_expander.proofs.ExpansionLemmas.{if_none, plain_output}
use Rattle.subst_expander.proofs.document.filler.StringFillerFill.needs_no_filling.Goals as goal

pub returns-in-Own : goal.returns-in-Own
returns-in-Own c = record {
  itself = λ is.
      let plain = rw c.as_bytes.ensures.value at (c.is_plain.ensures.plain.0 is) in (
        if_none c.args.self.now.variables _ refl,
        λ entries from. rw c.in-Own.is (plain_output entries c.args.text.now plain),
      );
}

pub returns-in-Chosen : goal.returns-in-Chosen
returns-in-Chosen c = record {
  itself = λ is.
      let each = rw c.as_bytes-in-Chosen.ensures.value at (c.has_no_dollar.ensures is) in (
        if_none c.args.self.now.variables _ refl,
        λ entries from. rw c.in-Chosen.is (text_output _ entries c.args.text.now each),
      );
}
