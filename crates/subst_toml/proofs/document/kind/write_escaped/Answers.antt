use Rattle.std.proofs.Common.{◌++◌, [], sym, ap, ◌∙◌, append_assoc, append-nil, string_bytes}
use Rattle.subst_toml.proofs.document.kind.write_escaped.Goals as goal

pub loop-c-init : goal.loop-c-init
loop-c-init c = ([], sym (append-nil (string_bytes c.args.output.now)))

pub loop-c-preserved : goal.loop-c-preserved
loop-c-preserved c =
    let (spelled, is) = c.loop-c.invariant in
    let (more, next) = c.in_ok-write_in_lines.ensures in (
      spelled ++ more,
      next ∙ ap (λ l. l ++ more) is ∙ append_assoc (string_bytes c.args.output.now) spelled more,
    )
