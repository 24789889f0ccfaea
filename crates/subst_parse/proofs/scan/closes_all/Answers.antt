-- Each byte is a step of the search.
use Rattle.std.proofs.Common.{refl, arith, ◌∙◌}
use Rattle.std.proofs.lemmas.Bool.{false≢true}
use Rattle.subst_parse.proofs.ScanLemmas.{scan_end, scan_escape, scan_opening, scan_closing, scan_byte}
use Rattle.subst_parse.proofs.scan.closes_all.Goals as goal

pub returns-in-None-clause-answer : goal.returns-in-None-clause-answer
returns-in-None-clause-answer c = (
  λ is. absurd (false≢true is),
  λ closed. absurd (scan_end c.loop-unclosed.invariant.scan c.loop-unclosed-test.true
      (rw c.loop-unclosed.invariant.same at c.in-None.ensures.byte) closed),
)

pub loop-unclosed-preserved-in-Some-eq92 : goal.loop-unclosed-preserved-in-Some-eq92
loop-unclosed-preserved-in-Some-eq92 c =
    let h = c.in-Some-eq92.ensures in
    let same = c.loop-unclosed.invariant.same in
    let within = rw same at (h.within refl) in
    let byte = rw same at h.byte in
    record {
      same = h.same ∙ same;
      scan =
          scan_escape c.loop-unclosed.invariant.scan c.loop-unclosed-test.true within byte
          c.in-Some-eq92.field-0-test;
      grows = omega arith;
      counted = omega arith;
      inside = omega (arith, within);
    }

pub loop-unclosed-preserved-in-Some-eq123 : goal.loop-unclosed-preserved-in-Some-eq123
loop-unclosed-preserved-in-Some-eq123 c =
    let h = c.in-Some-eq123.ensures in
    let same = c.loop-unclosed.invariant.same in
    let within = rw same at (h.within refl) in
    let byte = rw same at h.byte in
    record {
      same = h.same ∙ same;
      scan =
          scan_opening c.loop-unclosed.invariant.scan c.loop-unclosed-test.true within byte
          c.in-Some-eq123.field-0-test;
      grows = omega arith;
      counted = omega arith;
      inside = omega (arith, within);
    }

pub loop-unclosed-preserved-in-Some-eq125 : goal.loop-unclosed-preserved-in-Some-eq125
loop-unclosed-preserved-in-Some-eq125 c =
    let h = c.in-Some-eq125.ensures in
    let same = c.loop-unclosed.invariant.same in
    let within = rw same at (h.within refl) in
    let byte = rw same at h.byte in
    record {
      same = h.same ∙ same;
      scan =
          scan_closing c.loop-unclosed.invariant.scan c.loop-unclosed-test.true within byte
          c.in-Some-eq125.field-0-test;
      grows = omega arith;
      counted = omega arith;
      inside = omega (arith, within);
    }

pub loop-unclosed-preserved : goal.loop-unclosed-preserved
loop-unclosed-preserved c =
    let h = c.in-Some.ensures in
    let tests = c.in-Some.field-0-test in
    let same = c.loop-unclosed.invariant.same in
    let within = rw same at (h.within refl) in
    let byte = rw same at h.byte in
    record {
      same = h.same ∙ same;
      scan =
          scan_byte c.loop-unclosed.invariant.scan c.loop-unclosed-test.true within byte tests.0.0.1 tests.0.1
          tests.1;
      grows = omega arith;
      counted = omega arith;
      inside = omega (arith, within);
    }
