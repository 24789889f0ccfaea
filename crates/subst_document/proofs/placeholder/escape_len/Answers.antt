use Rattle.std.proofs.Common.{◌∷◌, List, ℕ, take, sym, subst}
use Rattle.subst_language.specs.Language.Bytes.{backslash}
use Rattle.subst_document.specs.Splice.{IsPlaceholder}
use Rattle.subst_document.specs.Splice.IsPlaceholder.{escape}
use Rattle.subst_document.proofs.placeholder.escape_len.Goals as goal

pub returns-in-92-clause-placeholder : goal.returns-in-92-clause-placeholder
returns-in-92-clause-placeholder c =
    let is = c.in_ok-first.ensures.cases.0 in
    subst (λ (x : List ℕ). IsPlaceholder (backslash ∷ take 1 x)) (sym is) (escape c.in_ok-first.first.now)
