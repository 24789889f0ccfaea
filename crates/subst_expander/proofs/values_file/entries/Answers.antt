-- The next line is read, or is the first wrong line.
use Rattle.std.proofs.Common.{◌≡◌, ◌≢◌, ◌-◌, ◌∙◌, ap, length, rules, subst}
use Rattle.subst_expander.specs.Layers.{entries_of}
use Rattle.subst_expander.specs.ValuesFaults.{IsAt, IsFirstWrong, StopsAt, right_first, wrong_first}
use Rattle.subst_expander.specs.ValuesFile.{Wrong, after_blanks, lines_in, message_of, parsed, values_of_lines}
use Rattle.subst_expander.proofs.FaultLemmas.{one_weaker}
use Rattle.subst_expander.proofs.ValuesFileLemmas.{line_taken, right_line, wrong_line}
use Rattle.subst_expander.proofs.values_file.entries.Goals as goal

pub returns-then-not-branch-clause-refused : goal.returns-then-not-branch-clause-refused
returns-then-not-branch-clause-refused c =
    let l = c.loop-rest in
    let wrong = wrong_line (parsed c.first_line.result.0.now) (entries_of l.entries.items)
    (rw c.if-not-branch.true at c.in_ok-add_line.ensures) in
    let start : c.saturating_sub-start.result ≡ length c.args.text.now - length (after_blanks l.rest.now) =
    search rules in
    let first = subst (λ line. parsed line ≡ Wrong) c.first_line.ensures.line wrong in
    one_weaker _ (IsFirstWrong c.args.text.now) (λ it (cause, range). (
      l.rest.now,
      l.invariant.stops l.rest.now (wrong_first first),
      rw cause (c.message_of.ensures ∙ ap message_of c.first_line.ensures.line),
      subst (λ n. IsAt n it) start range,
    )) _ c.in_ok-one_fault.ensures

pub loop-rest-preserved : goal.loop-rest-preserved
loop-rest-preserved c =
    let l = c.loop-rest in
    let step = rw c.if-not-branch.false at c.in_ok-add_line.ensures in
    let right = right_line c.first_line.result.0.now (entries_of l.entries.items)
    (entries_of c.add_line.new.entries.items) step in
    record {
      read = line_taken (values_of_lines (lines_in c.args.text.now)) (entries_of l.entries.items)
          (entries_of c.add_line.new.entries.items) l.rest.now c.first_line.result.0.now
          c.first_line.result.1.now l.invariant.read c.first_line.ensures.line c.first_line.ensures.rest step;
      stops = λ rest stops. l.invariant.stops rest
          (right_first (subst (λ line. parsed line ≢ Wrong) c.first_line.ensures.line right)
          (subst (λ s. StopsAt s rest) c.first_line.ensures.rest stops));
    }
