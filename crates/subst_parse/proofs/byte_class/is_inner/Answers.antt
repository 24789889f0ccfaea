use Rattle.std.proofs.Common.{nat_eq, get_or, refl, arith}
use Rattle.subst_parse.specs.declared.byte_class.TheConstants.{MARKERS}
use Rattle.subst_parse.specs.Inner.{is_inner}
use Rattle.std.proofs.lemmas.Bool.{agree_below_at}
use Rattle.subst_parse.proofs.byte_class.is_inner.Goals as goal

pub returns : goal.returns
returns c = agree_below_at (λ k. nat_eq (get_or MARKERS k 0) 44) is_inner 256 c.args.b refl (omega arith)
