-- Each turn reads plain bytes and a token.
use Rattle.subst_foreign.proofs.ReadingLemmas.{Passes, waits_anew, waits_end, waits_more}
use Rattle.subst_foreign.specs.Reading.{grammar_of, token_of}
use Rattle.subst_foreign.proofs.convert.convert.Goals as goal
use Rattle.subst_foreign.proofs.convert.convert.Goals.{in-Some-rewritten+in_ok-extend_from_slice+in_ok-append, in_default-rewritten}

pub loop-special-preserved : goal.loop-special-preserved
loop-special-preserved g c =
    let style = c.args.style in
    let grammar = grammar_of g.N.Names.all g.N.Names.counts style in
    let so_far = c.loop-special in
    let (plain, step) = c.in-Some.ensures.some in
    let passed : Passes grammar c.args.text.now so_far.rest.now c.in-Some.special.now so_far.refused.items
    c.append_refused.new.refused.items so_far.depth c.next_depth-depth.result so_far.outermost
    c.outermost_at-outermost.result (token_of step.front c.in-Some.token) c.in-Some.after.now = record {
      plain = plain;
      is = step.is;
      splits = step.taken;
      told = c.in_ok-append_refused.ensures step.front;
      deeper = c.next_depth-depth.ensures step.front;
      opened = c.outermost_at-outermost.ensures;
    } in
    elim c.match-rewritten.branch [
      | in-Some-rewritten+in_ok-extend_from_slice+in_ok-append w ↦
          rw (w.template-is, w.pending-is)
          (waits_anew _ _ _ _ _ _ _ _ _ _ _ _ _ _ _ _ _ _ so_far.invariant passed
          w.in_ok-extend_from_slice.ensures.items w.in_ok-append.ensures
          (w.in-Some-rewritten.ensures.some step.front))
      | in_default-rewritten w ↦
          rw (w.template-is, w.pending-is)
          (waits_more _ _ _ _ _ _ _ _ _ _ _ _ _ _ _ so_far.invariant passed
          (w.in_default-rewritten.ensures.none step.front))
    ]

pub returns : goal.returns
returns g c =
    waits_end _ _ _ _ _ _ _ _ _ _ _ c.loop-special.invariant c.in_default.ensures.none
    c.in_ok-extend_from_slice-2.ensures.items c.in_ok-append_unclosed.ensures
