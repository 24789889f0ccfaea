-- The only token of the part is the string.
use Rattle.std.proofs.Common.{◌≡◌, [], ◌∷◌, sym, ap, ap₂, ◌∙◌, rules, arith}
use Rattle.std.proofs.lemmas.Grind.{common_steps}
use Rattle.json.specs.Lex.{tokens}
use Rattle.json.specs.Reads.{token_of}
use Rattle.json.specs.Token.{Token}
use Rattle.subst_json.proofs.FilledLemmas.{token_alone}
use Rattle.subst_json.proofs.tokens.JsonStrings.read.Goals as goal

pub returns-then-is_none : goal.returns-then-is_none
returns-then-is_none c =
    let it = c.in-Some-String in
    let left : c.next.new.self ≡ [] = grind (arith, common_steps) in
    let is : tokens c.args.token.now ≡ Token.string it.string.now ∷ [] =
    sym c.in_ok-reader.ensures.ok ∙ it.ensures.value
    ∙ ap₂ (λ t ts. t ∷ ts) (ap token_of it.field-0-is) left in
    ((search rules, search rules), token_alone _ _ is)
