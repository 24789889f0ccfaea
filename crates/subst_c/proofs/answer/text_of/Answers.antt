-- The text is the bytes that are appended to an empty text.
use Rattle.std.proofs.Common.{◌∙◌, ap, rules, subst, sym, string_bytes, ◌++◌}
use Rattle.std.proofs.lemmas.Fmt.{contents_after_writes}
use Rattle.subst_error.specs.Display.{IsDisplayOfError}
use Rattle.subst_error.specs.ErrorFault.{error_fault}
use Rattle.subst_c.proofs.answer.text_of.Goals as goal

pub returns-in-Ok : goal.returns-in-Ok
returns-in-Ok c =
    let written = c.fmt.ensures.text c.new-f.ensures.plain (search rules) in
    let bytes =
    ap string_bytes c.into_inner.ensures
    ∙ contents_after_writes _ string_bytes (λ w l v t. t) _ written.text _ written.wrote.wrote
    ∙ ap (λ l. l ++ written.text) (ap string_bytes c.new-f.ensures.writer ∙ c.new.ensures.bytes) in
    subst (IsDisplayOfError (error_fault c.args.e.now)) (sym bytes) written.holds
