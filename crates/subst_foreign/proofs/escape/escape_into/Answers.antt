-- The output may be truncated to its earlier length.
use Rattle.std.proofs.Common.{◌≡◌, length, string_bytes, sym, subst, arith}
use Rattle.std.proofs.lemmas.Str.{IsUtf8-string_bytes}
use Rattle.std.specs.Str.{IsUtf8}
use Rattle.std.specs.String.Boundary.{IsSplitPoint}
use Rattle.subst_foreign.proofs.BoundaryLemmas.{splits_at_seam}
use Rattle.subst_foreign.proofs.escape.escape_into.Goals as goal

pub truncate-requires : goal.truncate-requires
truncate-requires c = λ within.
    let before = c.args.output.now in
    let now = c.append_escaped-result.new.output in
    let part = c.append_escaped-result.ensures.part in
    let whole = subst IsUtf8 part.1 (IsUtf8-string_bytes now) in
    let cut = splits_at_seam (string_bytes before) part.0 (IsUtf8-string_bytes before) whole in
    let len : length (string_bytes before) ≡ c.len-before.result = grind (arith) in
    subst (λ n. IsSplitPoint (string_bytes now) n) len
    (subst (λ x. IsSplitPoint x (length (string_bytes before))) (sym part.1) cut)
