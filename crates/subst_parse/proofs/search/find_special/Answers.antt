use Rattle.std.proofs.Common.{rules, ◌≡◌, subst, arith}
use Rattle.subst_language.specs.Language.Bytes.{IsPlain}
use Rattle.subst_parse.specs.ByteRun.{IsRun}
use Rattle.subst_parse.proofs.ByteRunLemmas.{run_append}
use Rattle.subst_parse.proofs.search.find_special.Goals as goal

pub returns : goal.returns
returns c =
    let near : c.first_outside-end.result ≡ c.min-near.result =
    omega (arith, c.first_outside-end.ensures.before) in
    let s = c.args.source.now in
    let run = subst (λ to. IsRun IsPlain s c.args.from to) near c.first_outside-end.ensures.run in
    record { run = run_append run c.find_special_far.ensures.run; end = search rules; within = omega arith }
