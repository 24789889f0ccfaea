-- The bytes of the token are the key, if they are text.
use Rattle.std.proofs.Common.{◌≡◌, ℕ, List, Some, None, IsUtf8, sym, ap, ◌∙◌, subst}
use Rattle.std.proofs.lemmas.Result.{IfOk-weaker}
use Rattle.subst_yaml.specs.Filled.{text_of, token_at}
use Rattle.subst_yaml.specs.Paths.{or_none}
use Rattle.subst_yaml.proofs.StringLemmas.{no_text, text_is}
use Rattle.subst_yaml.proofs.paths.key_at.Goals as goal

pub returns-in-Ok : goal.returns-in-Ok
returns-in-Ok c =
    let token = token_at c.args.text.now c.args.span in
    let cases = rw c.token_at.ensures at c.in-Ok.ensures.cases in
    let is : Some c.in-Ok.key.now ≡ text_of token = text_is token c.in-Ok.key.now cases.0
    (subst (λ (x : List ℕ). IsUtf8 x) (sym cases.0) cases.1) in
    IfOk-weaker c.from_str.result _ _ (λ key same. same ∙ ap or_none is) c.from_str.ensures.ok

pub returns-in-Err : goal.returns-in-Err
returns-in-Err c =
    let token = token_at c.args.text.now c.args.span in
    let cases = rw c.token_at.ensures at c.in-Err.ensures.cases in
    let is : None ≡ text_of token = no_text token cases.0 in
    c.new.ensures.bytes ∙ ap or_none is
