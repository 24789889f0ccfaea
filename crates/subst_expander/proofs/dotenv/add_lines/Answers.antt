-- The next line is read.
use Rattle.std.proofs.Common.{◌≡◌, ◌-◌, length, rules, subst, sym, true}
use Rattle.subst_expander.proofs.DotenvLemmas.{empty_if}
use Rattle.subst_expander.proofs.FaultLemmas.{one_weaker}
use Rattle.subst_expander.proofs.dotenv.add_lines.Goals as goal
use Rattle.subst_expander.specs.Dotenv.{GoesOn, IsFirstRefusedLine, Leaves, ended}
use Rattle.subst_expander.specs.Layers.{entries_of}
use Rattle.subst_expander.specs.ValuesFaults.{IsAt}
use Rattle.subst_expander.specs.ValuesFile.{after_blanks}

pub loop-rest-preserved : goal.loop-rest-preserved
loop-rest-preserved c =
    let l = c.loop-rest in
    let before = entries_of l.set.entries.items in
    let more = entries_of c.add_line.new.set.entries.items in
    record {
      last = rw c.in-Ok.is at c.in_ok-later.ensures.last;
      leaves = λ above after are leaves.
          let goes : GoesOn above before l.rest.now more c.in-Ok.later =
          rw c.in-Ok.is at (c.in_ok-later.ensures.goes_on above are) in
          l.invariant.leaves above after are (goes.leaves after leaves);
      stops = λ above rest cause are stops.
          let goes : GoesOn above before l.rest.now more c.in-Ok.later =
          rw c.in-Ok.is at (c.in_ok-later.ensures.goes_on above are) in
          l.invariant.stops above rest cause are (goes.stops rest cause stops);
    }

pub returns-in-Err-clause-stops : goal.returns-in-Err-clause-stops
returns-in-Err-clause-stops c above are =
    let l = c.loop-rest in
    let stops = l.invariant.stops above (after_blanks l.rest.now) c.in-Err.cause are
    (rw c.in-Err.is at (c.in_ok-later.ensures.stops above are)) in
    let start : c.saturating_sub-start.result ≡ length c.args.bytes.now - length (after_blanks l.rest.now) =
    search rules in
    one_weaker _ (IsFirstRefusedLine above (entries_of c.args.set.now.entries.items) c.args.bytes.now)
    (λ it (cause, range). (after_blanks l.rest.now, rw cause stops, subst (λ n. IsAt n it) start range)) _
    c.in_ok-one_fault-in-Err.ensures

pub returns-clause-leaves : goal.returns-clause-leaves
returns-clause-leaves c above are =
    let entries = entries_of c.loop-rest.set.entries.items in
    let is_empty : c.is_empty.result ≡ true = search rules in
    let empty = empty_if c.loop-rest.rest.now c.is_empty.result c.is_empty.ensures is_empty in
    c.loop-rest.invariant.leaves above entries are (subst (λ s. Leaves above entries s entries) (sym empty) ended)
