use Rattle.std.proofs.Common.{◌≡◌, suc, ◌+◌, ◌∷◌, ◌<◌, ◌∙◌, ap, get_or, drop, length, arith}
use Rattle.std.proofs.Math.Seq.{drop-cons}
use Rattle.subst_parse.proofs.ByteRunLemmas.{run_append, run_one}
use Rattle.subst_parse.proofs.search.first_outside_bytewise.Goals as goal

pub loop-at-preserved : goal.loop-at-preserved
loop-at-preserved g c =
    let s = c.args.source.now in
    let at = c.loop-at.at in
    let within : at < length s = omega arith in
    let reads : drop at s ≡ get_or s at 0 ∷ drop (at + 1) s =
    drop-cons s at 0 within ∙ ap (λ n. get_or s at 0 ∷ drop n s) {x = suc at} {y = at + 1} (omega arith) in
    record {
      run = run_append c.loop-at.invariant.run (run_one (c.has.ensures.0 c.if-has.true) reads);
      before = omega arith;
    }
