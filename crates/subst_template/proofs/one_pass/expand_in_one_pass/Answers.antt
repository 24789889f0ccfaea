-- The parts that the writer holds at the end determine the outcome of the expansion.
use Rattle.std.proofs.Common.{refl, ◌∙◌, arith}
use Rattle.subst_expand.proofs.ExpansionLemmas.{room_since, cut_back, named_since, expanded_since, failed_since}
use Rattle.subst_template.proofs.one_pass.expand_in_one_pass.Goals as goal

pub parse_into-writer-requires-clause-empty : goal.parse_into-writer-requires-clause-empty
parse_into-writer-requires-clause-empty g c =
    let start = rw c.replace-taken.ensures.value at c.new-writer.ensures in
    (_, refl, start)

pub returns-in-Err-clause-kept : goal.returns-in-Err-clause-kept
returns-in-Err-clause-kept g c =
    let start = rw c.replace-taken.ensures.value at c.new-writer.ensures in
    let (parts, held) = (rw c.in-Err.is at c.parse_into-writer.ensures.held) _ start in
    cut_back _ _ _ _ _ _ _ _ _ c.finish-written.ensures.output _ parts held c.truncate.ensures.items
    (c.len-len.ensures ∙ c.args.output.now.ok.0)

pub returns-in-Err-clause-capacity : goal.returns-in-Err-clause-capacity
returns-in-Err-clause-capacity g c =
    let start = rw c.replace-taken.ensures.value at c.new-writer.ensures in
    let (parts, held) = (rw c.in-Err.is at c.parse_into-writer.ensures.held) _ start in
    let capacity = room_since _ _ _ _ _ _ _ _ _ c.finish-written.ensures.output _ parts held in
    omega (arith, capacity, c.truncate.ensures.capacity)

pub error_of-requires : goal.error_of-requires
error_of-requires g c =
    let start = rw c.replace-taken.ensures.value at c.new-writer.ensures in
    let done = (rw c.in_default.is at c.parse_into-writer.ensures.ok) _ start in
    named_since _ _ _ _ _ _ _ _ _ c.finish-written.ensures.output _ done.parts done.held
    (rw c.in-Err-outcome.is at c.finish-written.ensures.stopped)

pub returns-in-Err-outcome-clause-capacity : goal.returns-in-Err-outcome-clause-capacity
returns-in-Err-outcome-clause-capacity g c =
    let start = rw c.replace-taken.ensures.value at c.new-writer.ensures in
    let done = (rw c.in_default.is at c.parse_into-writer.ensures.ok) _ start in
    let capacity = room_since _ _ _ _ _ _ _ _ _ c.finish-written.ensures.output _ done.parts done.held in
    omega (arith, capacity, c.truncate-in-Err-outcome.ensures.capacity)

pub returns-in-Err-outcome-clause-expanded : goal.returns-in-Err-outcome-clause-expanded
returns-in-Err-outcome-clause-expanded g c =
    let start = rw c.replace-taken.ensures.value at c.new-writer.ensures in
    let done = (rw c.in_default.is at c.parse_into-writer.ensures.ok) _ start in
    let same = c.finish-written.ensures.output in
    failed_since _ _ _ _ _ _ _ _ _ same _ done.parts done.held done.template
    (rw c.in-Err-outcome.is at c.finish-written.ensures.stopped) c.error_of.result c.error_of.ensures
    (cut_back _ _ _ _ _ _ _ _ _ same _ done.parts done.held c.truncate-in-Err-outcome.ensures.items
    (c.len-len.ensures ∙ c.args.output.now.ok.0))

pub returns-clause-capacity : goal.returns-clause-capacity
returns-clause-capacity g c =
    let start = rw c.replace-taken.ensures.value at c.new-writer.ensures in
    let done = (rw c.in_default.is at c.parse_into-writer.ensures.ok) _ start in
    let capacity = room_since _ _ _ _ _ _ _ _ _ c.finish-written.ensures.output _ done.parts done.held in
    omega (arith, capacity)

pub returns-clause-expanded : goal.returns-clause-expanded
returns-clause-expanded g c =
    let start = rw c.replace-taken.ensures.value at c.new-writer.ensures in
    let done = (rw c.in_default.is at c.parse_into-writer.ensures.ok) _ start in
    expanded_since _ _ _ _ _ _ _ _ _ c.finish-written.ensures.output _
    done.parts done.held done.template (rw c.in_default-outcome.is at c.finish-written.ensures.unstopped)
