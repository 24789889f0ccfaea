-- The formatted text, with the position and the highlighting in place.
use Rattle.std.proofs.Common.{◌≡◌, Some, IfOk, IfSome, codes, string_bytes}
use Rattle.std.specs.Fmt.{decimal, ◌++?◌}
use Rattle.subst.specs.Display.{display_of_error}
use Rattle.subst.specs.ErrorFault.{error_fault}
use Rattle.subst_uses.proofs.report.report.Goals as goal

pub returns : goal.returns
returns c =
    let place = c.source_position-line.result in
    let written : IfOk c.format.result (λ text. IfSome (
    Some c.args.file.now ++? Some (codes ":") ++? Some (decimal place.0) ++? Some (codes ":")
    ++? Some (decimal place.1) ++? Some (codes ": ") ++? display_of_error (error_fault c.args.e.now)
    ++? Some (codes "\n") ++? Some (string_bytes c.in_ok-underlined.underlined))
    (λ bs. string_bytes text ≡ bs)) =
    c.format.ensures.ok in
    rw (c.source_position-line.ensures.position, c.in_ok-underlined.ensures.highlighting) at written
