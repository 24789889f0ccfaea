-- The value follows the line end.
use Rattle.std.proofs.Common.{rules, ◌≡◌, ◌++◌, ℕ, List, ap, ◌∙◌, append_assoc, string_bytes}
use Rattle.subst_document.proofs.splice.append_value.Goals as goal

pub returns : goal.returns
returns g c = λ is.
    let line : (spelled : List ℕ)
    × (string_bytes c.write_line_end.new.output ≡ string_bytes c.args.output.now ++ spelled) = search rules in
    let (spelled, written) = c.in_ok-is_written.ensures is in (
      line.0 ++ spelled,
      written ∙ ap (λ l. l ++ spelled) line.1 ∙ append_assoc (string_bytes c.args.output.now) line.0 spelled,
    )
