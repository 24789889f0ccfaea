-- Bytes are a name if there are any, and all pass the test.
use Rattle.std.proofs.Common.{◌≡◌, ◌==◌, ◌↔◌, IsTrue, ℕ, Bool, false, List, [], ◌∷◌, length, sym, ◌∙◌}
use Rattle.std.specs.List.{list_all}
use Rattle.std.proofs.lemmas.List.Elements.{All-from_recursion, recursion_from_All}
use Rattle.std.proofs.lemmas.List.Sums.{AllPass-from_list_all, list_all-from_AllPass}
use Rattle.subst_language.specs.Language.Name.{is_name_byte, IsName, IsNameByte}
use Rattle.subst_language.proofs.name.is_name.Goals as goal

named : (result : Bool) (bytes : List ℕ) → result ≡ list_all is_name_byte bytes → false ≡ (length bytes == 0)
    → IsTrue result ↔ IsName bytes
named result [] is some = absurd cc
named result (b ∷ bytes) is some = (
  λ yes. recursion_from_All IsNameByte (b ∷ bytes)
      (AllPass-from_list_all is_name_byte (b ∷ bytes) (sym is ∙ yes)),
  λ each. is ∙ list_all-from_AllPass is_name_byte (b ∷ bytes)
      (All-from_recursion IsNameByte (b ∷ bytes) each),
)

pub returns-then-not-is_empty : goal.returns-then-not-is_empty
returns-then-not-is_empty c = record {
  name = named _ c.args.bytes.now c.are_name_bytes.ensures
      (sym c.if-not-is_empty.true ∙ c.is_empty.ensures);
}
