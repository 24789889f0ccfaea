-- A name is UTF-8.
use Rattle.std.proofs.Common.{◌≡◌, ◌∙◌, ℕ, List, ap, ap₂, rules}
use Rattle.subst.specs.Calls.Variables.{kind_of}
use Rattle.subst.specs.Language.Variables.{Kind, Variable}
use Rattle.subst_expander.specs.Listing.{is_optional, kind_by, kind_without}
use Rattle.subst_language.proofs.Language.NameLemmas.{name_is_utf8}
use Rattle.subst_expander.proofs.part.variable_in.Goals as goal

pub returns : goal.returns
returns c named =
    let it = c.args.it in
    let text = name_is_utf8 it.name.now named in
    let is : c.unwrap_or-name.result.now ≡ it.name.now = search rules in
    let kind : kind_of c.kind_of.result ≡ kind_by (kind_without c.args.missing
    (is_optional c.args.source.now it.position it.name.now)) it.operator =
    c.kind_of.ensures ∙ ap (λ optional. kind_by (kind_without c.args.missing optional) it.operator)
    (c.is_optional-is_optional.ensures ∙ ap (is_optional c.args.source.now it.position) is) in
    let variable : List ℕ → Kind → Variable = λ n k. record { position = it.position; name = n; kind = k } in
    ap₂ variable is kind
