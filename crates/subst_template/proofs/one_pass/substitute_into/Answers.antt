-- The outcome of the expansion is the answer of the source.
use Rattle.std.proofs.lemmas.Result.{err_from_is_err_and}
use Rattle.subst_language.proofs.Language.RangeWithinLemmas.{parse_result_within}
use Rattle.subst_template.proofs.SubstituteLemmas.{answers, completes, refuses, refuses_by_names, short_room, range_within}
use Rattle.subst_template.proofs.one_pass.substitute_into.Goals as goal

pub returns-in_err-expand_in_one_pass-clause-range : goal.returns-in_err-expand_in_one_pass-clause-range
returns-in_err-expand_in_one_pass-clause-range g c =
    let gone = c.from_residual in
    let (e, is, gives) = err_from_is_err_and gone.result gone.ensures.1 in
    rw (is, gives) (rw c.in_err-expand_in_one_pass.was at
    (parse_result_within c.args.source.now c.expand_in_one_pass.result c.expand_in_one_pass.ensures.refused))

pub returns-in_err-branch-clause-answer : goal.returns-in_err-branch-clause-answer
returns-in_err-branch-clause-answer g c bytes reads =
    let gone = c.from_residual-in_err-branch in
    let (e, is, gives) = err_from_is_err_and gone.result gone.ensures.1 in
    rw (is, gives) (refuses _ _ _ _ _ _ _ _ _ _ _ c.in_err-branch.was
    c.in_ok-expand_in_one_pass.ensures.expanded bytes reads)

pub returns-in_err-branch-clause-full : goal.returns-in_err-branch-clause-full
returns-in_err-branch-clause-full g c bytes reads t spells =
    let gone = c.from_residual-in_err-branch in
    let (e, is, gives) = err_from_is_err_and gone.result gone.ensures.1 in
    rw (is, gives) (short_room _ _ _ _ _ _ _ _ _ _ _ c.in_err-branch.was
    c.in_ok-expand_in_one_pass.ensures.expanded
    bytes reads t spells)

pub returns-in_err-branch-clause-refusal : goal.returns-in_err-branch-clause-refusal
returns-in_err-branch-clause-refusal g c look names =
    let gone = c.from_residual-in_err-branch in
    let (e, is, gives) = err_from_is_err_and gone.result gone.ensures.1 in
    rw (is, gives) (refuses_by_names _ _ _ _ _ _ _ _ _ _ _ c.in_err-branch.was
    c.in_ok-expand_in_one_pass.ensures.expanded look names)

pub returns-in_err-branch-clause-range : goal.returns-in_err-branch-clause-range
returns-in_err-branch-clause-range g c =
    let gone = c.from_residual-in_err-branch in
    let (e, is, gives) = err_from_is_err_and gone.result gone.ensures.1 in
    rw (is, gives) (range_within _ _ _ _ _ _ _ _ _ _ _ c.in_err-branch.was
    c.in_ok-expand_in_one_pass.ensures.expanded)

pub returns-clause-answer : goal.returns-clause-answer
returns-clause-answer g c bytes reads =
    answers _ _ _ _ _ _ _ _ _ _ c.in_ok-branch.was c.in_ok-expand_in_one_pass.ensures.expanded bytes reads

pub returns-clause-complete : goal.returns-clause-complete
returns-clause-complete g c look names =
    completes _ _ _ _ _ _ _ _ _ _ c.in_ok-branch.was c.in_ok-expand_in_one_pass.ensures.expanded look names
