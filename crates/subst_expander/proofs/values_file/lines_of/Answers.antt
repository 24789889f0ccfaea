-- The next file has entries, or is refused.
use Rattle.std.proofs.Common.{◌≡◌, ◌∙◌, ◌++◌, ◌∷◌, ap, rules, [], refl, subst, sym}
use Rattle.std.proofs.lemmas.List.{map-append}
use Rattle.subst_expander.specs.Layers.{entries_of, entry_of}
use Rattle.subst_expander.specs.ValuesFaults.{AreRefused}
use Rattle.subst_expander.proofs.ListLemmas.{vec_yielded}
use Rattle.subst_expander.proofs.PartLemmas.{pushed}
use Rattle.subst_expander.proofs.ValuesFileLemmas.{read_last, refused_last, values_more}
use Rattle.subst_expander.proofs.values_file.lines_of.Goals as goal

pub loop-file-preserved-in-Ok : goal.loop-file-preserved-in-Ok
loop-file-preserved-in-Ok c =
    let l = c.loop-file in
    let file = c.in-Some.file in
    let gives = rw c.in-Ok.is at c.in_ok-entries.ensures.gives in
    let all = ap entries_of c.in_ok-append-in-Ok.ensures.items
    ∙ map-append entry_of l.all.items c.in-Ok.entries.items in
    record {
      read = λ none. rw all (values_more l.yielded file _ _ (l.invariant.read none) gives);
      refused = read_last l.yielded file l.refused.items (rw gives refl) l.invariant.refused;
    }

pub loop-file-preserved : goal.loop-file-preserved
loop-file-preserved c =
    let l = c.loop-file in
    let file = c.in-Some.file in
    let more = c.in_ok-push-in-Err.ensures.items in
    let is = rw c.in-Err.is at c.in_ok-entries.ensures.refused in
    record {
      read = λ none. absurd (pushed l.refused.items c.in-Err.it (sym more ∙ none));
      refused = subst (AreRefused (l.yielded ++ file ∷ [])) (sym more)
          (refused_last l.yielded file l.refused.items c.in-Err.it is l.invariant.refused);
    }

pub returns-else-is_empty-clause-refused : goal.returns-else-is_empty-clause-refused
returns-else-is_empty-clause-refused c =
    let l = c.loop-file in
    let some : ¬ (l.refused.items ≡ []) = search rules in
    let gives = c.into_iter-file-iterator.ensures.into_iter_gives in
    let all = vec_yielded c.args.files c.into_iter-file-iterator.result l.file-iterator c.next.new.self
    l.yielded c.next.result gives.0 gives.1 l.yielded_by c.next.ensures.steps c.in-None.is in
    (some, subst (λ files. AreRefused files l.refused.items) all l.invariant.refused)
