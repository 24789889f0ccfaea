use Rattle.std.proofs.Common.{sym, subst}
use Rattle.std.proofs.lemmas.Bool.{false≢true}
use Rattle.subst_foreign.proofs.TokenLemmas.{IsNotOf, no_braced_head}
use Rattle.subst_foreign.specs.Reading.{grammar_of}
use Rattle.subst_foreign.proofs.token.head_step.Goals as goal
use Rattle.subst_foreign.proofs.token.head_step.Goals.{in_default-via-in-Closed+else-has, in_default-via-in-Optional+else-has-2, in_default-via-in-Operated+else-has-3, in_default-via-in_default}

pub returns-in_default-clause-none : goal.returns-in_default-clause-none
returns-in_default-clause-none g c =
    let style = c.args.style in
    let name = c.args.name.now in
    let grammar = grammar_of g.N.Names.all g.N.Names.counts style in
    no_braced_head grammar name c.args.after.now c.args.end c.requires.run c.requires.ended c.requires.end
    (elim c.in_default.branch [
      | in_default-via-in-Closed+else-has w ↦ subst (IsNotOf grammar name) (sym w.in-Closed.is)
          (λ named. false≢true (w.if-has.ensures.1 named))
      | in_default-via-in-Optional+else-has-2 w ↦ subst (IsNotOf grammar name) (sym w.in-Optional.is)
          (λ named. false≢true (w.if-has-2.ensures.1 named))
      | in_default-via-in-Operated+else-has-3 w ↦ subst (IsNotOf grammar name) (sym w.in-Operated.is)
          (λ named. false≢true (w.if-has-3.ensures.1 named))
      | in_default-via-in_default w ↦ subst (IsNotOf grammar name) (sym w.in_default.is) tt
    ])
