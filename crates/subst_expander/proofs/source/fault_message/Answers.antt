-- A message with a path is the path, a colon and the cause.
use Rattle.std.proofs.Common.{◌≡◌, ◌++◌, ◌∙◌, ◌==◌, append_assoc, codes, false, length, rules, string_bytes, sym}
use Rattle.std.proofs.lemmas.Result.{IfOk-weaker}
use Rattle.subst_expander.specs.Messages.{IsMessage}
use Rattle.subst_expander.proofs.source.fault_message.Goals as goal

pub returns : goal.returns
returns c =
    let path = string_bytes c.in_ok-path.path in
    let cause = string_bytes c.in_ok-cause.cause in
    let some : (length (string_bytes c.args.fault.now.path) == 0) ≡ false = search rules in
    IfOk-weaker c.format.result (λ m. string_bytes m ≡ path ++ (codes ": " ++ cause))
    (λ m. IsMessage c.args.fault.now (string_bytes m))
    (λ m is. (
      path,
      cause,
      c.in_ok-path.ensures,
      c.in_ok-cause.ensures,
      is ∙ rw some (sym (append_assoc path (codes ": ") cause)),
    )) c.format.ensures.ok
