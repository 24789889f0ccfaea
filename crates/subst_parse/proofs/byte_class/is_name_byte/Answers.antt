use Rattle.std.proofs.Common.{not, nat_eq, get_or, refl, arith}
use Rattle.subst_parse.specs.declared.byte_class.TheConstants.{NAME_BYTES}
use Rattle.subst_language.specs.Language.Name.{is_name_byte}
use Rattle.std.proofs.lemmas.Bool.{agree_below_at}
use Rattle.subst_parse.proofs.byte_class.is_name_byte.Goals as goal

pub returns : goal.returns
returns c =
    agree_below_at (λ k. not (nat_eq (get_or NAME_BYTES k 0) 44)) is_name_byte 256 c.args.b refl (omega arith)
