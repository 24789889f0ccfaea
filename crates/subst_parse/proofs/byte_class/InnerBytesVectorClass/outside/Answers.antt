use Rattle.std.proofs.Common.{◌==◌, ◌||◌, ℕ}
use Rattle.subst_language.specs.Language.Bytes.{dollar, backslash, opening_brace, closing_brace}
use Rattle.subst_parse.specs.Inner.{IsInner}
use Rattle.subst_parse.proofs.LaneLemmas.{outside_by_test, marked_not_inner, unmarked_inner}
use Rattle.subst_parse.proofs.byte_class.InnerBytesVectorClass.outside.Goals as goal

pub returns : goal.returns
returns c =
    let bytes = c.args.bytes in
    let begins_item = λ (b : ℕ). b == dollar || b == backslash in
    let is_brace = λ (b : ℕ). b == opening_brace || b == closing_brace in
    let items = c.either-items.ensures (λ b. b == dollar) (λ b. b == backslash) bytes
    c.equal_to.ensures c.equal_to-2.ensures in
    let braces = c.either-braces.ensures (λ b. b == opening_brace) (λ b. b == closing_brace) bytes
    c.equal_to-3.ensures c.equal_to-4.ensures in
    outside_by_test IsInner (λ b. begins_item b || is_brace b) marked_not_inner unmarked_inner
    (c.either.ensures begins_item is_brace bytes items braces)
