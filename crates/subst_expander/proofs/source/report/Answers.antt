-- A report is the position, the message and the excerpt.
use Rattle.std.proofs.Common.{◌≡◌, ◌++◌, ◌∙◌, append_assoc, codes, string_bytes}
use Rattle.std.proofs.lemmas.Result.{IfOk-weaker}
use Rattle.std.specs.Fmt.{decimal}
use Rattle.subst_expander.specs.Messages.{IsExcerpt, IsReport}
use Rattle.subst_expander.proofs.source.report.Goals.{in-All+in_ok-excerpt-in-All, in-None}
use Rattle.subst_expander.proofs.source.report.Goals as goal

pub returns : goal.returns
returns c =
    let at = c.args.position in
    let message = string_bytes c.in_ok-message.message in
    let excerpt = string_bytes c.match-excerpts.excerpt in
    let is_excerpt : IsExcerpt c.args.excerpts excerpt = elim c.match-excerpts.branch [
      | in-All+in_ok-excerpt-in-All w ↦ rw (w.in-All.is, w.excerpt-is) w.in_ok-excerpt-in-All.ensures
      | in-None w ↦ rw (w.in-None.is, w.excerpt-is) w.new-excerpt.ensures.bytes
    ] in
    IfOk-weaker c.format.result (λ text. string_bytes text ≡ c.args.name.now ++ (codes ":" ++ (decimal at.line
    ++ (codes ":" ++ (decimal at.column ++ (codes ": error: " ++ (message ++ (codes "\n" ++ excerpt))))))))
    (λ text. IsReport c.args.excerpts c.args.name.now at.line at.column c.args.fault.now (string_bytes text))
    (λ text is. (message, excerpt, c.in_ok-message.ensures, is_excerpt, is ∙ simp append_assoc)) c.format.ensures.ok
