use Rattle.std.proofs.Common.{rules}
use Rattle.subst_expander.proofs.MistakeLemmas.{is_unread}
use Rattle.subst_expander.proofs.document.format.of_json.Goals as goal

pub returns-in-Err-Json-clause-unfilled : goal.returns-in-Err-Json-clause-unfilled
returns-in-Err-Json-clause-unfilled g c =
    rw (c.in_ok-unread-in-Err-Json.ensures)
    (is_unread _ _ (λ none. search rules) c.args.text.now c.in_ok-stop-in-Err-Json.stop)
