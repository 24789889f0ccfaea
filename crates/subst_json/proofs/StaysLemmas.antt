-- A text whose strings don't change is read as a tree that is filled in as itself.
use Rattle.std.proofs.Common.{◌≡◌, ℕ, List, [], ◌∷◌, ◌++◌, Option, Some, None, IfSome, String, Global, string_bytes, option_map, option_and_then, refl, sym, ap, ◌∙◌, subst, append_assoc, append-nil}
use Rattle.std.specs.Prelude.{⊤}
use Rattle.std.proofs.lemmas.Option.{option_and_then_some}
use Rattle.json.specs.Json as json
use Rattle.json.specs.Lex.{tokens}
use Rattle.json.specs.Token.{Token}
use Rattle.json.specs.Tree.{json_tokens, items_tokens, members_tokens}
use Rattle.json.proofs.Unique.Spelling.{value-json_tokens_back}
use Rattle.serde_json.specs.Data.{Data, array, object, Items, item, Members, no_members}
use Rattle.serde_json.specs.Data as tree
use Rattle.serde_json.specs.Read.{number_of, of_json, of_items, of_members, max_depth, read}
use Rattle.subst_document.specs.Stays.{AllStay}
use Rattle.subst_json.specs.Filled.{strings_of_token, strings_in, IsFilledJson}
use Rattle.subst_json.specs.InPlace.{IsFilledDocument}
use Rattle.subst_json.specs.Mapped.{IsEach, AreEach, HasEachMember}
use Rattle.subst_json.specs.Outcome.{ReadsAsTree}
use Rattle.subst_json.proofs.FilledLemmas.{put_each}

strings_in-append : (ts us : List Token) → strings_in (ts ++ us) ≡ strings_in ts ++ strings_in us
strings_in-append [] us = refl
strings_in-append (t ∷ ts) us =
    ap (λ xs. strings_of_token t ++ xs) (strings_in-append ts us)
    ∙ sym (append_assoc (strings_of_token t) (strings_in ts) (strings_in us))

if_mapped : {A B : Type 0} (f : A → B) (P : B → Type 0) (o : Option A) → IfSome o (λ a. P (f a))
    → IfSome (option_map f o) P
if_mapped f P None h = tt
if_mapped f P (Some a) h = h

if_and_then : {A B : Type 0} (f : A → Option B) (P : A → Type 0) (Q : B → Type 0) (o : Option A) → IfSome o P
    → ((a : A) → P a → IfSome (f a) Q) → IfSome (option_and_then f o) Q
if_and_then f P Q None h next = tt
if_and_then f P Q (Some a) h next = next a h

last_of : (j k : json.Json) (ts : List Token) → json.if_last j ts ≡ Some k → (j ≡ k) × (ts ≡ [])
last_of j k [] e = (cc, refl)
last_of j k (t ∷ ts) e = absurd cc

module _ (Becomes : List ℕ → List ℕ → Type 0) where
  stay_apart : (xs ys : List (List ℕ)) → AllStay Becomes (xs ++ ys) → AllStay Becomes xs × AllStay Becomes ys
  stay_apart [] ys h = (tt, h)
  stay_apart (x ∷ xs) ys h = let rest = stay_apart xs ys h.1 in ((h.0, rest.0), rest.1)

  strings_apart : (ts us : List Token) → AllStay Becomes (strings_in (ts ++ us))
      → AllStay Becomes (strings_in ts) × AllStay Becomes (strings_in us)
  strings_apart ts us h =
      stay_apart (strings_in ts) (strings_in us) (subst (AllStay Becomes) (strings_in-append ts us) h)

  same_each : {A : Type 0} (o : Option A) → IfSome o (λ a. a ≡ a)
  same_each None = tt
  same_each (Some a) = refl

  items_more : (d : Data) → IsEach Becomes d d → (o : Option Items) → IfSome o (λ ds. AreEach Becomes ds ds)
      → IfSome o (λ ds. AreEach Becomes (item d ds) (item d ds))
  items_more d each None h = tt
  items_more d each (Some ds) h = (each, h)

  mutual
    value_stays : (j : json.Json) → AllStay Becomes (strings_in (json_tokens j))
        → IfSome (of_json j) (λ d. IsEach Becomes d d)
    value_stays json.null h = tt
    value_stays (json.boolean b) h = refl
    value_stays (json.number s) h =
        if_mapped tree.number (λ d. IsEach Becomes d d) (number_of s) (same_each (number_of s))
    value_stays (json.string s) h = h.0
    value_stays (json.array js) h = if_mapped array (λ d. IsEach Becomes d d) (of_items js) (items_stay js h)
    value_stays (json.object ms) h =
        if_mapped object (λ d. IsEach Becomes d d) (of_members ms no_members) (members_stay ms no_members tt h)

    items_stay : (js : json.Items) → AllStay Becomes (strings_in (items_tokens js))
        → IfSome (of_items js) (λ ds. AreEach Becomes ds ds)
    items_stay json.no_items h = tt
    items_stay (json.item j js) h =
        let (first, rest) = strings_apart (json_tokens j) (items_tokens js) h in
        if_and_then (λ d. option_map (item d) (of_items js)) (λ d. IsEach Becomes d d) _ (of_json j)
        (value_stays j first) (λ d each. if_mapped (item d) (λ ds. AreEach Becomes ds ds) (of_items js)
        (items_more d each (of_items js) (items_stay js rest)))

    members_stay : (ms : json.Members) (found : Members) → HasEachMember Becomes found found
        → AllStay Becomes (strings_in (members_tokens ms))
        → IfSome (of_members ms found) (λ ns. HasEachMember Becomes ns ns)
    members_stay json.no_members found each h = each
    members_stay (json.member k j ms) found each h =
        let (first, rest) = strings_apart (json_tokens j) (members_tokens ms) h in
        if_and_then (λ d. of_members ms (tree.put k d found)) (λ d. IsEach Becomes d d) _ (of_json j)
        (value_stays j first)
        (λ d here. members_stay ms (tree.put k d found) (put_each Becomes k d d found found here each) rest)

  pub document_stays : (source : List ℕ) (d : Data) → read source ≡ Some d
      → AllStay Becomes (strings_in (tokens source)) → IsEach Becomes d d
  document_stays source d is h =
      let value = json.value max_depth (tokens source) in
      option_and_then_some of_json (option_and_then (λ p. json.if_last p.0 p.1) value) d is
      (λ j parsed reads. option_and_then_some (λ p. json.if_last p.0 p.1) value j parsed
      (λ p is_value ends.
      let (same, none) = last_of p.0 j p.1 ends in
      let spelled : tokens source ≡ json_tokens j =
      value-json_tokens_back max_depth (tokens source) p.1 p.0 is_value
      ∙ ap (λ ts. json_tokens p.0 ++ ts) none ∙ append-nil (json_tokens p.0) ∙ ap json_tokens same in
      subst (λ o. IfSome o (λ d. IsEach Becomes d d)) reads
      (value_stays j (subst (λ ts. AllStay Becomes (strings_in ts)) spelled h))))

  -- a text whose strings don't change, returned as its own output, is a filled-in document
  pub unchanged_document : (source : List ℕ) (text : String Global)
      → AllStay Becomes (strings_in (tokens source)) → string_bytes text ≡ source
      → IsFilledJson Becomes source (string_bytes text) → (output : Option (String Global))
      → (output ≡ Some text) × ReadsAsTree source (λ _. ⊤)
      → IfSome output (λ it. IsFilledDocument Becomes source (string_bytes it))
  unchanged_document source text stay same kept output (is, (d, reads, _)) =
      subst (λ o. IfSome o (λ it. IsFilledDocument Becomes source (string_bytes it))) (sym is)
      (record { mapped = (d, reads, (d, ap read same ∙ reads, document_stays source d reads stay)); kept = kept })
