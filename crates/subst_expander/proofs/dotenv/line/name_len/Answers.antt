-- The index is that of the first byte that isn't a name byte, or the length.
use Rattle.std.proofs.Common.{◌∙◌, not, rules, tests}
use Rattle.std.proofs.lemmas.Iterator.{YieldsList-from_slice}
use Rattle.std.proofs.lemmas.Iterator.Search.{position_from_yields_List}
use Rattle.subst_expander.proofs.EntryLemmas.{placed}
use Rattle.subst_expander.proofs.dotenv.line.name_len.Goals as goal
use Rattle.subst_language.specs.Language.Name.{is_name_byte}

pub returns-clause-len : goal.returns-clause-len
returns-clause-len c =
    let text = c.args.text.now in
    let found = position_from_yields_List (λ b. not (is_name_byte b)) _ _ _ c.position-end.ensures.ran
    (YieldsList-from_slice text cc) (λ x q k. search (rules, tests)) in
    c.unwrap_or.ensures ∙ placed (λ b. not (is_name_byte b)) text c.position-end.result found
