-- The faults of each string are appended.
use Rattle.std.proofs.Common.{◌∙◌, ℕ, List, String, subst}
use Rattle.std.specs.Global.{Global}
use Rattle.subst_document.specs.declared.edits.StringAt.{StringAt}
use Rattle.subst_expander.specs.Strings.{AreFaults}
use Rattle.subst_expander.proofs.DocumentLemmas.{faults_or_none, strings_more}
use Rattle.subst_expander.proofs.document.faults_of.Goals as goal

pub loop-path-preserved : goal.loop-path-preserved
loop-path-preserved c =
    let l = c.loop-path in
    let filler = c.args.filler.now in
    let one : String Global × StringAt = (c.in-Some.path, c.in-Some.field-0-1) in
    let faults = c.in_ok-faults.faults.items in
    let (reported, added, are) = c.in_ok-add_faults.ensures.reported l.invariant.finder in
    record {
      format = c.in_ok-add_faults.ensures.format ∙ l.invariant.format;
      finder = c.in_ok-add_faults.ensures.finder l.invariant.finder;
      faults = λ entries from. rw added (strings_more c.args.format filler.placeholders.now entries c.args.text.now
          l.yielded one l.all.items faults reported (l.invariant.faults entries from)
          (faults_or_none filler entries _ faults from
          (subst (λ (s : List ℕ). AreFaults filler s faults) (cc) c.in_ok-faults.ensures))
          (rw (l.invariant.format, c.deref-in-loop-path.ensures) at are));
    }
