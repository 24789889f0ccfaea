-- By induction on the events.
use Rattle.subst_yaml.proofs.ShapeLemmas.{same_shape}
use Rattle.subst_yaml.proofs.laws.filled_texts_keep_their_shape.Goals as goal

pub returns : goal.returns
returns g c = record {
  same = λ source output es fs h. same_shape (g.F.Fill.answers c.args.filler.now) source output 0 0 es fs h;
}
