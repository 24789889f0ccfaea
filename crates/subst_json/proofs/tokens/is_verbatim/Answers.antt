-- The content of the token is the string.
use Rattle.std.proofs.Common.{rules, ◌≡◌, ◌≤◌, ◌-◌, true, length, sym, subst}
use Rattle.std.specs.List.{list_all}
use Rattle.std.specs.Prelude.{slice_index, slice_range}
use Rattle.subst_json.specs.Filled.{is_plain}
use Rattle.subst_json.specs.Places.{IsTokenOf}
use Rattle.subst_json.proofs.FilledLemmas.{between_quotes, plain_token}
use Rattle.subst_json.proofs.tokens.is_verbatim.Goals as goal

pub returns-then-eq : goal.returns-then-eq
returns-then-eq c = λ is.
    let token = c.args.token.now in
    let text = c.args.text.now in
    let within : 2 ≤ length token = search rules in
    let first : slice_index token 0 ≡ 34 = search rules in
    let last : slice_index token (length token - 1) ≡ 34 = search rules in
    let same : slice_range token 1 (length token - 1) ≡ text = search rules in
    let plain : list_all is_plain text ≡ true = search (rules, is) in
    let is_token : IsTokenOf token text =
    subst (λ t. IsTokenOf t text) (sym (between_quotes token text within first last same))
    (plain_token text plain) in ((first, last), is_token)
