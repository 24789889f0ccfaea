-- The next file is read, or is the first one that is refused.
use Rattle.std.proofs.Common.{◌∷◌, ◌++◌, ◌∙◌, [], ap, map}
use Rattle.std.proofs.lemmas.List.{map-append}
use Rattle.std.specs.Vec.Iter.{into_iter_items}
use Rattle.subst_expander.proofs.DotenvLemmas.{files_more, one_more_done}
use Rattle.subst_expander.proofs.dotenv.settings_of.Goals as goal
use Rattle.subst_expander.specs.Layers.{entries_of}
use Rattle.subst_expander.specs.Refusals.{bytes_of}

pub returns-in-Err-clause-refused : goal.returns-in-Err-clause-refused
returns-in-Err-clause-refused c above are =
    let l = c.loop-source in
    let rest = into_iter_items c.next.new.self in
    record {
      done = map bytes_of l.yielded;
      later = map bytes_of rest;
      before = entries_of l.set.entries.items;
      all = ap (map bytes_of) (l.invariant.all ∙ ap (λ left. l.yielded ++ left) c.in-Some.ensures.steps.0)
          ∙ map-append bytes_of l.yielded (c.in-Some.source ∷ rest);
      leave = l.invariant.leave above are;
      faulty = rw c.in-Err.is at (c.in_ok-outcome.ensures.refused above are);
    }

pub loop-source-preserved : goal.loop-source-preserved
loop-source-preserved c =
    let l = c.loop-source in
    let source = c.in-Some.source in
    record {
      all = one_more_done _ l.yielded (into_iter_items l.source-iterator) (into_iter_items c.next.new.self) source
          l.invariant.all c.in-Some.ensures.steps.0;
      last = rw c.in-Ok.is at c.in_ok-outcome.ensures.last;
      leave = λ above are. rw (map-append bytes_of l.yielded (source ∷ []))
          (files_more above [] (map bytes_of l.yielded) (bytes_of source) _ _ (l.invariant.leave above are)
          (rw c.in-Ok.is at (c.in_ok-outcome.ensures.leaves above are)));
    }
