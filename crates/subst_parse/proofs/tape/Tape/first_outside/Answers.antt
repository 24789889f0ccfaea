use Rattle.std.proofs.Common.{rules, ◌+◌, ◌<◌, length, ◌∙◌, subst, arith}
use Rattle.std.proofs.lemmas.Grind.{common_steps}
use Rattle.subst_parse.specs.ByteRun.{IsRun}
use Rattle.subst_parse.proofs.ByteRunLemmas.{run_append}
use Rattle.subst_parse.proofs.tape.Tape.first_outside.Goals as goal

pub returns-then-not-is_at-2 : goal.returns-then-not-is_at-2
returns-then-not-is_at-2 g c =
    let before = c.loop-self.invariant in
    record {
      run = run_append before.run (rw before.same at (c.is_at.ensures.run c.if-not-is_at.false));
      end = grind (arith, common_steps);
      within = grind (arith, common_steps);
      same = search rules;
      cost = grind (arith, common_steps);
    }

pub loop-self-preserved : goal.loop-self-preserved
loop-self-preserved g c =
    let before = c.loop-self.invariant in
    let first = c.is_at.ensures in
    let second = c.is_at-in-loop-self.ensures in
    let s = c.args.self.now.source.now in
    let below : c.loop-self.at + 1 < length s =
    rw before.same at (c.has.ensures.0 c.loop-self-test.true) in
    let next = rw (first.same, before.same) at (second.run c.if-not-is_at-2.false) in
    record {
      run = run_append before.run
          (run_append (rw before.same at (first.run c.if-not-is_at.false))
          (subst (λ to. IsRun g.C.ByteClass.is_in s (c.loop-self.at + 1) to) (omega arith) next));
      within = omega (arith, below);
      same = second.same ∙ first.same ∙ before.same;
      counted = omega arith;
    }
