use Rattle.std.proofs.Common.{◌==◌, ◌||◌}
use Rattle.subst_language.specs.Language.Bytes.{IsPlain, dollar, backslash}
use Rattle.subst_parse.proofs.LaneLemmas.{outside_by_test, marked_not_plain, unmarked_plain}
use Rattle.subst_parse.proofs.byte_class.PlainBytesVectorClass.outside.Goals as goal

pub returns : goal.returns
returns c =
    outside_by_test IsPlain (λ b. b == dollar || b == backslash) marked_not_plain unmarked_plain
    (c.either.ensures (λ b. b == dollar) (λ b. b == backslash) c.args.bytes
    c.equal_to.ensures c.equal_to-2.ensures)
