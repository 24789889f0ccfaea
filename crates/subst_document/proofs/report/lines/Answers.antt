-- Without a place, the lines are the formatted text.
use Rattle.std.proofs.Common.{◌≡◌, ◌++◌, List, ℕ, Some, IfOk, IfSome, codes, string_bytes, refl, append_assoc, ◌∙◌}
use Rattle.std.proofs.lemmas.Result.{IfOk-weaker}
use Rattle.std.specs.Fmt.{◌++?◌}
use Rattle.subst_document.proofs.report.lines.Goals as goal

-- parts that are concatenated from the last one on
in_order : (a b c d : List ℕ) → a ++ (b ++ (c ++ d)) ≡ a ++ b ++ c ++ d
in_order a b c d = simp append_assoc refl

pub returns-in-None : goal.returns-in-None
returns-in-None c =
    let file = c.args.file.now in
    let message = c.args.message.now in
    let formatted : IfOk c.format.result (λ text. IfSome (
    Some file ++? Some (codes ": ") ++? Some message ++? Some (codes "\n")) (λ bs. string_bytes text ≡ bs)) =
    c.format.ensures.ok in
    rw c.in-None.is (IfOk-weaker c.format.result _ _
    (λ text is. is ∙ in_order file (codes ": ") message (codes "\n")) formatted)
