-- The output is written after the first bytes of the buffer.
use Rattle.std.proofs.Common.{◌≡◌, ◌+◌, length, min, rules, arith}
use Rattle.subst_c.proofs.ExpandedLemmas.{agree_given}
use Rattle.subst_c.proofs.RowsLemmas.{put_after, stopped_as}
use Rattle.subst_c.specs.Values.{given_values}
use Rattle.subst_c.proofs.rows.append_row.Goals as goal

pub returns-in-Some : goal.returns-in-Some
returns-in-Some c =
    let values = c.args.row.now.values.now in
    let (x, gives, put) = c.in-Ok.ensures.expands (given_values values) (agree_given values) in
    let ends : c.in-Some.end ≡ c.args.written + c.in-Ok.length = search rules in
    let at : c.min-from.result ≡ min c.args.written (length c.args.buffer.now) = search rules in (
      x,
      gives,
      (
        omega (arith, ends, put.0),
        λ fits. put_after c.args.buffer.now _ x _ c.args.written _ _ at put.0 put.1 ends fits,
      ),
    )

pub returns-in-Err : goal.returns-in-Err
returns-in-Err c =
    let values = c.args.row.now.values.now in
    stopped_as _ _ _ _ c.in-Err.stop (c.in-Err.ensures.expands (given_values values) (agree_given values))
