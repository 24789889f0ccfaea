-- The options of the table are given as often as they may be.
use Rattle.std.proofs.Common.{◌≡◌, ◌∙◌, ap, arith, length, subst, take}
use Rattle.std.proofs.Math.Seq.{take-length}
use Rattle.std.proofs.lemmas.List.Elements.{All-map}
use Rattle.std.specs.List.{All}
use Rattle.clap.specs.Words.{found_of, rows_of}
use Rattle.subst_options.specs.CommandLine.{IsOnce, option_of}
use Rattle.subst_options.specs.declared.table.Row.{Row as TableRow}
use Rattle.subst_options.proofs.check_once.Goals as goal

pub returns : goal.returns
returns c = λ options same.
    let found = rows_of (found_of c.args.matches.now) in
    let ended : c.loop-row.row-index ≡ length c.args.rows.now =
    omega (arith, c.loop-row-test.false, c.loop-row.auto.row-index-end) in
    let whole = ap (λ n. take n c.args.rows.now) ended ∙ take-length c.args.rows.now in
    let each : All (λ (row : TableRow). IsOnce found (option_of row)) c.args.rows.now =
    subst (All (λ (row : TableRow). IsOnce found (option_of row))) whole c.loop-row.invariant in
    subst (All (IsOnce found)) same (All-map (IsOnce found) option_of c.args.rows.now each)
