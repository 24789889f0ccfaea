-- The filled-in strings are those that were found.
use Rattle.std.proofs.Common.{◌≡◌, ◌∙◌, Some, ap, map, string_bytes, subst, sym}
use Rattle.std.proofs.lemmas.Simd.{map-map}
use Rattle.subst_language.specs.Language.Several.{GivesBy}
use Rattle.subst_document.specs.Edits.{IsFilledText, text_at}
use Rattle.subst_toml.specs.Filled.{spelled_of, strings_in, IsFit, IsPartOf, IsQuotedToken}
use Rattle.subst_toml.proofs.document.written.Goals as goal

pub returns-in-Ok-Some : goal.returns-in-Ok-Some
returns-in-Ok-Some g c =
    let Becomes = GivesBy (g.F.Fill.answers c.args.filler.now) in
    let source = c.args.source.now in
    let items = c.in-Some.found.items in
    let found : strings_in source ≡ Some (map spelled_of items) = rw c.in-Some.is at c.in_ok-found.ensures in
    let same : map text_at c.as_slice.result.now ≡ map (λ it. it.text) (map spelled_of items) =
    ap (map text_at) c.as_slice.ensures.value ∙ sym (map-map (λ it. it.text) spelled_of items) in
    let filled = rw c.in-Ok-Some.field-0-is at c.in-Ok-Some.ensures.ok in (
      map spelled_of items,
      found,
      subst (λ xs. IsFilledText IsQuotedToken IsPartOf IsFit Becomes xs source
          (string_bytes c.in-Ok-Some.filled.text)) same filled,
    )
