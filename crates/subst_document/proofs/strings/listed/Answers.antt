-- Each string is listed after those before it.
use Rattle.std.proofs.Common.{[], ◌∷◌, ◌++◌, sym, ap, ◌∙◌, append_assoc}
use Rattle.subst_document.specs.Edits.{AreListed}
use Rattle.subst_document.proofs.ListedLemmas.{one_listed, listed_then, all_spelled}
use Rattle.subst_document.proofs.strings.listed.Goals as goal

pub loop-it-preserved : goal.loop-it-preserved
loop-it-preserved g c =
    let l = c.loop-it in
    let (done, all, listed) = l.invariant in
    let IsToken = g.T.StringFormat.is_token in
    let source = c.args.source.now in
    let here = c.in-Some.it.text.now in
    let found = c.in-Some-found.found in
    let is = rw c.in-Some-found.is at c.in_ok-found.ensures in
    let next : AreListed IsToken source l.from found.span.end (here ∷ []) l.list.items c.push.new.self.items =
    one_listed IsToken source l.from found here _ _ c.in_ok-push.ensures.items is.0 is.2 in (
      done ++ here ∷ [],
      all ∙ ap (λ xs. done ++ xs) c.in-Some.ensures
          ∙ sym (append_assoc done (here ∷ []) (g.S.Strings.left c.next.new.self)),
      listed_then IsToken source 0 l.from found.span.end done (here ∷ []) [] _ _ listed next,
    )

pub returns-clause-spelled : goal.returns-clause-spelled
returns-clause-spelled g c =
    let (done, all, listed) = c.loop-it.invariant in
    all_spelled g.T.StringFormat.is_token c.args.source.now c.loop-it.from done c.loop-it.list.items listed
