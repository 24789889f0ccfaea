-- The two cases after the dollar.
use Rattle.std.proofs.Common.{sym, ◌∙◌}
use Rattle.subst_language.proofs.Language.ListLemmas.{byte_is, next_element, next_elements}
use Rattle.subst_language.specs.Language.Bytes.{dollar, opening_brace}
use Rattle.subst_parse.proofs.item.placeholder_at.Goals as goal

pub braced_at-requires : goal.braced_at-requires
braced_at-requires c =
    rw c.byte_at.ensures.same
    (next_elements c.args.tape.now.source.now c.args.at dollar opening_brace
    (next_element c.args.tape.now.source.now c.args.at dollar c.requires.0 c.requires.1)
    (byte_is c.byte_at.result _ _ opening_brace c.byte_at.ensures.byte (sym c.eq.ensures ∙ c.if-eq.true)))

pub short_at-requires-clause-dollar : goal.short_at-requires-clause-dollar
short_at-requires-clause-dollar c =
    rw c.byte_at.ensures.same
    (next_element c.args.tape.now.source.now c.args.at dollar c.requires.0 c.requires.1)
