-- The path, if there is one, precedes the text of the fault.
use Rattle.std.proofs.Common.{◌≡◌, ◌==◌, false, ◌++◌, codes, length, ℕ, List, [], ◌∷◌, string_bytes, rules, append_assoc, sym, ap, ◌∙◌}
use Rattle.std.proofs.lemmas.Result.{IfOk-weaker}
use Rattle.subst_document.specs.Report.{lines_of, with_path}
use Rattle.subst_document.proofs.report.fault.Goals as goal

a_path_first : (path shown : List ℕ) → (length path == 0) ≡ false
    → path ++ (codes ": " ++ shown) ≡ with_path path shown
a_path_first [] shown h = absurd cc
a_path_first (b ∷ path) shown h = sym (append_assoc (b ∷ path) (codes ": ") shown)

pub returns : goal.returns
returns c =
    let shown = string_bytes c.in_ok-shown.shown in
    let first = a_path_first c.args.path.now shown (search rules) in
    let message : c.deref-2.result.now ≡ string_bytes c.in_ok-message.message = search rules in
    let same : c.deref-2.result.now ≡ with_path c.args.path.now shown =
    message ∙ (c.in_ok-message.ensures.ok ∙ first) in
    IfOk-weaker c.lines-2.result _ _ (λ text is. (
      shown,
      c.in_ok-shown.ensures,
      is ∙ ap (lines_of c.args.file.now c.args.source.now c.args.place) same,
    )) c.lines-2.ensures
