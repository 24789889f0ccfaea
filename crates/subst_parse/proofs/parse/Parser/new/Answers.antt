use Rattle.std.proofs.Common.{[], arith}
use Rattle.subst_parse.proofs.ByteRunLemmas.{run_within}
use Rattle.subst_parse.proofs.StackHoldsLemmas.{holds_start}
use Rattle.subst_parse.proofs.parse.Parser.new.Goals as goal

pub returns-clause-reading : goal.returns-clause-reading
returns-clause-reading g c first empty = record {
  parts = [];
  held = empty;
  fits = c.requires.fits;
  few = omega arith;
  small = omega arith;
  within = run_within c.requires.plain;
  shallow = omega arith;
  nested = rw c.new.ensures.items (holds_start c.args.tape.source.now c.args.at c.requires.plain);
}
