use Rattle.std.proofs.Common.{◌≡◌, subst, arith}
use Rattle.std.proofs.lemmas.Grind.{common_steps}
use Rattle.subst_parse.specs.ByteRun.{IsRun}
use Rattle.subst_parse.specs.Inner.{IsInner}
use Rattle.subst_parse.proofs.ByteRunLemmas.{run_append}
use Rattle.subst_parse.proofs.search.find_inner.Goals as goal

pub returns : goal.returns
returns c =
    let found = c.first_outside_bytewise-end.ensures in
    let few : c.first_outside_bytewise-end.result ≡ c.min-few.result = omega (arith, found.before) in
    let run = subst (λ to. IsRun IsInner c.args.source.now c.args.from to) few found.run in
    record {
      run = run_append run c.first_outside.ensures.run;
      end = grind (arith, common_steps);
      within = grind (arith, common_steps);
    }
