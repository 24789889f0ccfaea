use Rattle.std.proofs.Common.{◌≡◌, ◌++◌, ◌∷◌, ◌∙◌, sym, subst}
use Rattle.std.proofs.lemmas.Bool.{false≢true}
use Rattle.std.specs.List.{AllByRecursion}
use Rattle.subst_foreign.proofs.TokenLemmas.{lone_step}
use Rattle.subst_foreign.proofs.token.dollar_step.Goals as goal
use Rattle.subst_foreign.specs.Reading.{grammar_of, IsStep}
use Rattle.subst_language.specs.Language.Bytes.{dollar}
use Rattle.subst_language.specs.Language.Name.{BeginsWithNo, IsNameByte}

pub returns-in-None : goal.returns-in-None
returns-in-None g c depth =
    let style = c.args.style in
    let grammar = grammar_of g.N.Names.all g.N.Names.counts style in
    let name = c.split_at.result.0.now in
    let after = c.split_at.result.1.now in
    let splits : c.args.text.now ≡ name ++ after = c.split_at.ensures.by_index.0 in
    subst (λ s. IsStep grammar depth (dollar ∷ s) c.lone_dollar.result s) (sym splits)
    (lone_step grammar depth name after c.lone_dollar.result
    (subst (AllByRecursion IsNameByte) (sym c.split_at.ensures.front) c.name_len.ensures.run)
    (subst (BeginsWithNo IsNameByte) (sym c.split_at.ensures.back) c.name_len.ensures.end)
    (λ whole y is. c.in_default.ensures.none (c.is_whole.ensures ∙ whole) y (splits ∙ is))
    (λ named. false≢true (c.if-has.ensures.1 named))
    (λ y is. false≢true (sym (rw (splits ∙ is) at c.in-None.ensures.cases)))
    c.lone_dollar.ensures)
