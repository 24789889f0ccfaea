-- The position is that of the first byte that passes the test, or the length.
use Rattle.std.proofs.Common.{◌==◌, ◌∙◌, rules, tests}
use Rattle.std.proofs.lemmas.Iterator.{YieldsList-from_slice}
use Rattle.std.proofs.lemmas.Iterator.Search.{position_from_yields_List}
use Rattle.subst_expander.proofs.EntryLemmas.{placed}
use Rattle.subst_expander.proofs.entry.index_of.Goals as goal

pub returns : goal.returns
returns c =
    let bytes = c.args.bytes.now in
    let found = position_from_yields_List (λ b. b == c.args.byte) _ _ _ c.position-found.ensures.ran
    (YieldsList-from_slice bytes cc) (λ x q k. search (rules, tests)) in
    c.unwrap_or.ensures ∙ placed (λ b. b == c.args.byte) bytes c.position-found.result found
