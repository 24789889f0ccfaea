-- The lines are the formatted text, with the position and the underlined line.
use Rattle.std.proofs.Common.{◌≡◌, ◌++◌, List, ℕ, Some, IfOk, IfSome, codes, string_bytes, refl, append_assoc, ◌∙◌}
use Rattle.std.proofs.lemmas.Result.{IfOk-weaker}
use Rattle.std.specs.Fmt.{decimal, ◌++?◌}
use Rattle.subst_document.proofs.report.positioned_lines.Goals as goal

-- parts that are concatenated from the last one on
in_order : (a b c d e f g h i : List ℕ)
    → a ++ (b ++ (c ++ (d ++ (e ++ (f ++ (g ++ (h ++ i))))))) ≡ a ++ b ++ c ++ d ++ e ++ f ++ g ++ h ++ i
in_order a b c d e f g h i = simp append_assoc refl

pub returns : goal.returns
returns c =
    let file = c.args.file.now in
    let place = c.line_and_column-line.result in
    let message = c.args.message.now in
    let excerpt = string_bytes c.in_ok-excerpt.excerpt in
    let formatted : IfOk c.format.result (λ text. IfSome (
    Some file ++? Some (codes ":") ++? Some (decimal place.0) ++? Some (codes ":") ++? Some (decimal place.1)
    ++? Some (codes ": ") ++? Some message ++? Some (codes "\n") ++? Some excerpt) (λ bs. string_bytes text ≡ bs)) =
    c.format.ensures.ok in
    let written : IfOk c.format.result (λ text. string_bytes text ≡ file ++ codes ":" ++ decimal place.0
    ++ codes ":" ++ decimal place.1 ++ codes ": " ++ message ++ codes "\n" ++ excerpt) =
    IfOk-weaker c.format.result _ _ (λ text is. is ∙ in_order file (codes ":") (decimal place.0) (codes ":")
    (decimal place.1) (codes ": ") message (codes "\n") excerpt) formatted in
    rw (
      c.line_and_column-line.ensures.position,
      c.in_ok-excerpt.ensures,
      c.in_ok-underline.ensures.highlighting,
    ) at written
