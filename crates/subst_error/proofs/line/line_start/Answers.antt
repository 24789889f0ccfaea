-- The loop ends at the start of the source, or after a byte that ends a line.
use Rattle.std.proofs.Common.{rules, ◌≡◌, ◌-◌, false, not, get_or, subst, arith}
use Rattle.std.proofs.lemmas.List.Sums.{suffix_len-take_no}
use Rattle.std.proofs.lemmas.Str.{IsCharBoundary-start}
use Rattle.std.specs.Str.{IsCharBoundary}
use Rattle.subst_error.specs.Line.{is_line_end}
use Rattle.subst_error.proofs.LineLemmas.{range_before_offset, boundary_after_line_end}
use Rattle.subst_error.proofs.line.line_start.Goals as goal

pub returns-else-not-is_end-clause-before : goal.returns-else-not-is_end-clause-before
returns-else-not-is_end-clause-before c =
    let s = c.args.source.now in
    let start = c.loop-start.start in
    let ends : not (is_line_end (get_or s (start - 1) 0)) ≡ false = search rules in
    let none = suffix_len-take_no (λ b. not (is_line_end b)) s start 0 (omega arith) (omega arith) ends in
    range_before_offset s c.args.offset start c.loop-start.invariant.before c.requires.0 (omega (arith, none))

pub returns-else-not-is_end-clause-boundary : goal.returns-else-not-is_end-clause-boundary
returns-else-not-is_end-clause-boundary c =
    let s = c.args.source.now in
    let start = c.loop-start.start in
    boundary_after_line_end s start c.utf8.source (omega arith) (omega arith) (search rules)

pub returns-after-loop-start-clause-boundary : goal.returns-after-loop-start-clause-boundary
returns-after-loop-start-clause-boundary c =
    let s = c.args.source.now in
    let first : 0 ≡ c.loop-start.start = omega arith in
    subst (IsCharBoundary s) first (IsCharBoundary-start s c.utf8.source)
