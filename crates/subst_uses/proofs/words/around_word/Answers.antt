-- The source is five sentences joined: a template, a space, an escaped word, a space and a template.
use Rattle.std.proofs.Common.{◌≡◌, ℕ, List, ◌++◌, codes, refl, sym, ap, subst, ◌∙◌, string_bytes}
use Rattle.std.proofs.lemmas.Option.{IfSome_then}
use Rattle.subst.specs.Language.Answer.{Answers, Gives}
use Rattle.subst.specs.Language.Escaped.{escaped}
use Rattle.subst.specs.Language.Name.{IsNameByte, BeginsWithNo}
use Rattle.subst.specs.Calls.Outcome.{answer_of}
use Rattle.subst.proofs.Calling.{answer_unique, followed_by_no_name, only_plain, spells}
use Rattle.subst_uses.specs.CommandLine.{texts_of}
use Rattle.subst_uses.proofs.words.around_word.Goals as goal

-- a text that begins with a space doesn't begin with a name byte
space_no_name : (x : List ℕ) → BeginsWithNo IsNameByte (codes " " ++ x)
space_no_name x h = cc

pub returns : goal.returns
returns c = λ x y (t, begins, gives) ends.
    let look = texts_of c.args.variables.now in
    let before = c.args.before.now in
    let word = c.args.word.now in
    let after = c.args.after.now in
    let space = codes " " in
    let join = c.law_2.ensures.bytes in
    let (w, spelled, as_is) = c.law_3.ensures.alone word look in
    let apart = spells space (only_plain space) refl refl in
    let last = join (only_plain space) space after space y look apart tt refl ends in
    let word_on =
    join w (escaped word) (space ++ after) word (space ++ y) look spelled
    (followed_by_no_name w (space ++ after) (space_no_name after)) as_is last in
    let rest = escaped word ++ (space ++ after) in
    let given = word ++ (space ++ y) in
    let space_on = join (only_plain space) space rest space given look apart tt refl word_on in
    let whole =
    join t before (space ++ rest) x (space ++ given) look begins
    (followed_by_no_name t (space ++ rest) (space_no_name rest)) gives space_on in
    let source = c.as_str-2.result.now in
    let is : source ≡ before ++ (space ++ rest) =
    c.as_str-2.ensures.value ∙ c.in_ok-source.ensures
    ∙ ap (λ v. before ++ (space ++ (v ++ (space ++ after))))
    (c.as_str.ensures.value ∙ c.in_ok-word.ensures.escaped) in
    let answer = x ++ (space ++ given) in
    let known = subst (λ s. Answers s look (Gives answer)) (sym is) whole in
    IfSome_then (answer_of (λ output. string_bytes output) c.substitute.result)
    (c.substitute.ensures.answer (λ v. string_bytes v) (λ v. refl))
    (λ found h. answer_unique source look found (Gives answer) h known)
