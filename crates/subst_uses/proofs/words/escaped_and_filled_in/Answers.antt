-- An escaped text expands to the text, and has no other answer.
use Rattle.std.proofs.Common.{◌≡◌, sym, subst, ◌∙◌, string_bytes}
use Rattle.std.proofs.lemmas.Option.{IfSome_then}
use Rattle.subst.specs.Language.Answer.{Answers, Gives}
use Rattle.subst.specs.Language.Escaped.{escaped}
use Rattle.subst.specs.Calls.VariableMap.{look_up_of}
use Rattle.subst.specs.Calls.Outcome.{answer_of}
use Rattle.subst.proofs.Calling.{answer_unique}
use Rattle.subst_uses.proofs.words.escaped_and_filled_in.Goals as goal

pub returns : goal.returns
returns g c = λ bytes reads.
    let look = look_up_of bytes (g.M.VariableMap.look_up c.args.variables.now) in
    let text = c.args.text.now in
    let source = c.as_str.result.now in
    let is : source ≡ escaped text = c.as_str.ensures.value ∙ c.in_ok-source.ensures.escaped in
    let known = subst (λ s. Answers s look (Gives text)) (sym is) (c.law_3.ensures.alone text look) in
    IfSome_then (answer_of (λ output. string_bytes output) c.substitute.result)
    (c.substitute.ensures.answer bytes reads)
    (λ answer h. answer_unique source look answer (Gives text) h known)
