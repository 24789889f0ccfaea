-- The columns of a head and the names of a template.
use denote.Ref.{Bor}
use Rattle.std.proofs.Common.{◌≡◌, ◌↔◌, ℕ, ◌<◌, Bool, Option, Some, None, List, take, length, get_or, refl, sym, ap, ◌∙◌, subst, arith}
use Rattle.std.proofs.lemmas.List.{length-map, take-map}
use Rattle.std.proofs.lemmas.Option.{slice_get-get_or, slice_get-map, slice_get_within}
use Rattle.subst_rows.proofs.ListLemmas.{some_injective}
use Rattle.std.specs.Option.{option_map}
use Rattle.std.specs.Prelude.{IsTrue, is_some, slice_get}
use Rattle.subst_indexed.specs.Numbering.{number_of}
use Rattle.subst_language.specs.Language.Name.{IsName}
use Rattle.subst_rows.specs.Columns.{IsRepeated, bytes_of}

module _ (head : List (Bor (List ℕ))) (index : ℕ) (d : Bor (List ℕ)) (below : index < length head) where
  -- the name at the index
  abbrev pub name : List ℕ
  name = (get_or head index d).now

  pub named : slice_get (bytes_of head) index ≡ Some name
  named =
      slice_get-map (λ it. it.now) head index
      ∙ ap (option_map (λ it. it.now)) (slice_get-get_or head index d below)

  abbrev IsFound : Option ℕ → Type 0
  IsFound found = number_of (take index (bytes_of head)) name ≡ found

  -- it is repeated if and only if it is found among those before
  repeated_of : IsName name → (found : Option ℕ) → IsFound found
      → (IsTrue (is_some found) ↔ IsRepeated (bytes_of head) index)
  repeated_of spelled (Some earlier) before = (
    λ true. record { name = name; at = named; spelled = spelled; earlier = earlier; before = before },
    λ is. refl,
  )
  repeated_of spelled None before = (λ false. absurd cc, λ is. absurd (other is))
    where
      other : IsRepeated (bytes_of head) index → ⊥
      other is =
          let same : Some name ≡ Some is.name = sym named ∙ is.at in
          let found : number_of (take index (bytes_of head)) name ≡ Some is.earlier =
          ap (number_of (take index (bytes_of head))) (some_injective same) ∙ is.before in
          cc

  pub is_repeated : IsName name → (result : Bool) (found : Option ℕ)
      → found ≡ number_of (bytes_of (take index head)) name → result ≡ is_some found
      → (IsTrue result ↔ IsRepeated (bytes_of head) index)
  is_repeated spelled result found is tells =
      let P : Bool → Type 0 = λ b. IsTrue b ↔ IsRepeated (bytes_of head) index in
      subst P (sym tells) (repeated_of spelled found
      (ap (λ before. number_of before name) (take-map (λ it. it.now) index head) ∙ sym is))

  -- a name that can't be spelled isn't repeated
  pub not_repeated : ¬ (IsName name) → IsRepeated (bytes_of head) index → ⊥
  not_repeated unspelled is =
      let same : Some is.name ≡ Some name = sym is.at ∙ named in
      unspelled (subst IsName (some_injective same) is.spelled)

-- the index of a repeated name is one of a name
pub repeated_within : (head : List (Bor (List ℕ))) (index : ℕ) → IsRepeated (bytes_of head) index
    → index < length head
repeated_within head index is =
    omega (arith, slice_get_within (bytes_of head) index is.name is.at, length-map head (λ it. it.now))
