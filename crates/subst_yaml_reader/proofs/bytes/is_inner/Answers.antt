use Rattle.std.proofs.Common.{nat_eq, get_or, refl, arith}
use Rattle.std.proofs.lemmas.Bool.{agree_below_at}
use Rattle.subst_yaml_reader.specs.declared.bytes.TheConstants.{OUTER_BYTES}
use Rattle.subst_yaml_reader.specs.Search.{is_inner}
use Rattle.subst_yaml_reader.proofs.bytes.is_inner.Goals as goal

pub returns : goal.returns
returns c = agree_below_at (λ k. nat_eq (get_or OUTER_BYTES k 0) 46) is_inner 256 c.args.byte refl
    (omega arith)
