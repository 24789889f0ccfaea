-- Each source is done after those before it.
use Rattle.std.proofs.Common.{◌≡◌, [], rules, subst}
use Rattle.subst_expander.specs.Refusals.{AreRefusals}
use Rattle.subst_expander.proofs.ExpansionLemmas.{done_more}
use Rattle.subst_expander.proofs.ListLemmas.{vec_yielded}
use Rattle.subst_expander.proofs.expansion.Expander.fill_all.Goals as goal

pub loop-source-preserved : goal.loop-source-preserved
loop-source-preserved c = λ entries are.
    let l = c.loop-source in
    let expander = c.args.self.now in
    done_more expander.formats expander.placeholders.now entries l.yielded c.in-Some.source
    l.all.items c.add.new.all.items l.refused.items c.add.new.refused.items (l.invariant entries are)
    (c.in_ok-add.ensures entries are)

pub returns-else-is_empty-clause-refused : goal.returns-else-is_empty-clause-refused
returns-else-is_empty-clause-refused c = λ entries are.
    let l = c.loop-source in
    let expander = c.args.self.now in
    let some : ¬ (l.refused.items ≡ []) = search rules in
    let gives = c.into_iter-source-iterator.ensures.into_iter_gives in
    let all = vec_yielded c.args.sources c.into_iter-source-iterator.result l.source-iterator c.next.new.self
    l.yielded c.next.result gives.0 gives.1 l.yielded_by c.next.ensures.steps c.in-None.is in (
      some,
      subst (λ sources. AreRefusals expander.formats expander.placeholders.now entries sources l.refused.items)
          all (l.invariant entries are).1,
    )
