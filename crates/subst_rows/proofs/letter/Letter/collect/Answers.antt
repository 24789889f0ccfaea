-- The bytes that are kept are those that are written to the device, which was empty.
use Rattle.std.proofs.Common.{◌∙◌, ap, ◌++◌}
use Rattle.subst_rows.specs.Letter.{separated}
use Rattle.subst_rows.proofs.letter.Letter.collect.Goals as goal

pub returns : goal.returns
returns c = record {
  all = λ fixed fallback are.
      let it = c.in_ok-write.ensures.all fixed fallback are in
      let front = ap (λ old. old ++ separated c.args.layout.separator.now it.0) c.new.ensures.items in
      (it.0, it.1, it.2, it.3, it.4 ∙ front);
}
