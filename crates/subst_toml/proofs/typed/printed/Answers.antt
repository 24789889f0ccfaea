-- The reader refuses the text with a date of no month.
use Rattle.std.proofs.Common.{◌≡◌, None, codes, refl, ◌∙◌, ap}
use Rattle.std.proofs.lemmas.Result.{IfOk-weaker}
use Rattle.toml.specs.Parse.{parse_document}
use Rattle.toml.proofs.OnLiterals.{toml_on_literals}
use Rattle.subst_toml.proofs.typed.printed.Goals as goal

unread : parse_document (codes "date = 0000-00-00\n") ≡ None
unfolding toml_on_literals
unread = refl

pub returns-in-Err-DateInvalid-clause-dates : goal.returns-in-Err-DateInvalid-clause-dates
returns-in-Err-DateInvalid-clause-dates c =
    IfOk-weaker c.from_str.result _ _ (λ text is. λ invalid. ap parse_document is ∙ unread)
    c.from_str.ensures.ok
