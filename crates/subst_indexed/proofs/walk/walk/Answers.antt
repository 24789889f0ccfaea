-- Each cell is read at its index, and its output is appended.
use Rattle.std.proofs.Common.{[], ◌∷◌, arith}
use Rattle.std.proofs.lemmas.Result.{err_from_is_err_and}
use Rattle.subst_indexed.specs.Expansion.{Lacks, Breaks}
use Rattle.subst_indexed.proofs.WalkLemmas.{advances_none, advances_by, advances_past, agreeing, ends_at, too_small, expansion-end, expansion-past, found_at}
use Rattle.subst_indexed.proofs.walk.walk.Goals as goal

pub loop-cell-init : goal.loop-cell-init
loop-cell-init g c = advances_none _ _ _ _ _ _ _ _

pub loop-cell-preserved-in-Bytes : goal.loop-cell-preserved-in-Bytes
loop-cell-preserved-in-Bytes g c =
    let found = found_at _ _ _ c.in-Some.ensures.lookup.0 c.in-Some.ensures.lookup.1 in
    let appended = c.in_ok-append_bytes-in-Bytes.ensures in
    advances_by _ _ _ _ _ _ _ _ _ _ _ _ _ _ c.loop-cell.invariant found c.in-Bytes.ensures appended.ok
    appended.len appended.capacity

pub returns-in_err-append_bytes-in-Bytes : goal.returns-in_err-append_bytes-in-Bytes
returns-in_err-append_bytes-in-Bytes g c =
    let found = found_at _ _ _ c.in-Some.ensures.lookup.0 c.in-Some.ensures.lookup.1 in
    let (e, is, gives_error) = err_from_is_err_and c.from_residual.result c.from_residual.ensures.1 in
    let failed = c.in_err-append_bytes-in-Bytes.ensures in
    rw (is, gives_error) (too_small _ _ _ _ _ _ _ _ _ _ _ _ _ c.loop-cell.invariant found
    (λ all agrees. (c.in-Bytes.ensures all agrees).0) failed.err failed.full)

pub loop-cell-preserved-in-Byte : goal.loop-cell-preserved-in-Byte
loop-cell-preserved-in-Byte g c =
    let found = found_at _ _ _ c.in-Some.ensures.lookup.0 c.in-Some.ensures.lookup.1 in
    let appended = c.in_ok-append_byte-in-Byte.ensures in
    advances_by _ _ _ _ _ _ _ _ 0 _ _ _ _ (c.in-Byte.byte ∷ []) c.loop-cell.invariant found
    c.in-Byte.ensures appended.ok appended.len appended.capacity

pub returns-in_err-append_byte-in-Byte : goal.returns-in_err-append_byte-in-Byte
returns-in_err-append_byte-in-Byte g c =
    let found = found_at _ _ _ c.in-Some.ensures.lookup.0 c.in-Some.ensures.lookup.1 in
    let (e, is, gives_error) =
    err_from_is_err_and c.from_residual-in_err-append_byte-in-Byte.result
    c.from_residual-in_err-append_byte-in-Byte.ensures.1
    in
    let failed = c.in_err-append_byte-in-Byte.ensures in
    rw (is, gives_error) (too_small _ _ _ _ _ _ _ _ _ _ _ _ (c.in-Byte.byte ∷ []) c.loop-cell.invariant
    found (λ all agrees. (c.in-Byte.ensures all agrees).0) failed.err (omega (arith, failed.full)))

pub loop-cell-preserved : goal.loop-cell-preserved
loop-cell-preserved g c =
    let found = found_at _ _ _ c.in-Some.ensures.lookup.0 c.in-Some.ensures.lookup.1 in
    advances_past _ _ _ _ _ _ _ _ _ _ _ c.loop-cell.invariant found c.in-Pass.ensures

pub returns-in-Miss : goal.returns-in-Miss
returns-in-Miss g c =
    let found = found_at _ _ _ c.in-Some.ensures.lookup.0 c.in-Some.ensures.lookup.1 in (
      c.loop-cell.invariant,
      ends_at _ c.args.cells.now c.args.source.now c.loop-cell.at c.in-Some.cell.now
          (Lacks c.in-Miss.name) found tt c.in-Miss.ensures,
    )

pub returns-in-Ask : goal.returns-in-Ask
returns-in-Ask g c =
    let (all, agrees) = agreeing g.V.AsSlot.known c.args.values.now in
    (c.loop-cell.invariant, c.in-Ask.ensures all agrees)

pub returns-in-Break : goal.returns-in-Break
returns-in-Break g c =
    let found = found_at _ _ _ c.in-Some.ensures.lookup.0 c.in-Some.ensures.lookup.1 in (
      c.loop-cell.invariant,
      ends_at _ c.args.cells.now c.args.source.now c.loop-cell.at c.in-Some.cell.now
          Breaks found tt c.in-Break.ensures,
    )

pub returns-then-at-cells : goal.returns-then-at-cells
returns-then-at-cells g c = (
  c.loop-cell.invariant,
  λ values agrees.
      expansion-past c.args.cells.now c.loop-cell.at c.args.source.now values c.if-at-cells.true,
)

pub returns : goal.returns
returns g c = (
  c.loop-cell.invariant,
  λ values agrees.
      expansion-end c.args.cells.now c.loop-cell.at c.args.source.now values
      (omega (arith, c.in_default.ensures.lookup.3)),
)
