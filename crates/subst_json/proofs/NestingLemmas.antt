-- The expected parts before a token, from those after it.
use Rattle.std.proofs.Common.{◌≡◌, ◌≤◌, ◌+◌, ℕ, Bool, true, false, List, ◌∷◌, ◌++◌, length, refl, sym, ap, ◌∙◌, subst, arith, append_assoc}
use Rattle.json.specs.Json as json
use Rattle.json.specs.Json.{Json, array, object, no_items, item, no_members, member}
use Rattle.json.specs.Token.{Token, begin_object, end_object, begin_array, end_array, key, string, number, boolean, null}
use Rattle.json.specs.Tree.{depth, json_tokens, items_tokens, members_tokens}
use Rattle.serde_json.specs.Read.{max_depth}
use Rattle.subst_json.specs.Nesting.{AreExpected}
use Rattle.subst_json.specs.declared.nesting.Expected.{Expected}
use Rattle.subst_json.specs.declared.nesting.Expected.TheVariants.{Member, Item, Key}

-- the token ends an array or an object in which this is expected
abbrev pub ends : Token → Expected → Bool
ends end_array Item = true
ends end_object Key = true
ends _ _ = false

-- the token is a value
abbrev pub is_value : Token → Bool
is_value (string s) = true
is_value (number s) = true
is_value (boolean b) = true
is_value null = true
is_value _ = false

pub value_before : (t : Token) (all : List Expected) (rest : List Token) → is_value t ≡ true
    → ((j : Json) → depth j ≡ 0 → AreExpected all (json_tokens j ++ rest)) → AreExpected all (t ∷ rest)
value_before (string s) all rest e before = before (json.string s) refl
value_before (number s) all rest e before = before (json.number s) refl
value_before (boolean b) all rest e before = before (json.boolean b) refl
value_before null all rest e before = before json.null refl
value_before _ all rest e before = absurd cc

module _ (more : List Expected) (rest : List Token) where
  pub item_before : (j : Json) → depth j + length more ≤ max_depth → AreExpected (Item ∷ more) rest
      → AreExpected (Item ∷ more) (json_tokens j ++ rest)
  item_before j deep (js, left, is, within, h) = (
    item j js,
    left,
    ap (λ ts. json_tokens j ++ ts) is ∙ sym (append_assoc (json_tokens j) (items_tokens js) left),
    omega arith,
    h,
  )

  pub key_before : (k : List ℕ) → AreExpected (Member ∷ more) rest → AreExpected (Key ∷ more) (key k ∷ rest)
  key_before k (j, left, is, deep, (ms, last, is_last, within, h)) = (
    member k j ms,
    last,
    ap (λ ts. key k ∷ ts) (is ∙ ap (λ ts. json_tokens j ++ ts) is_last
        ∙ sym (append_assoc (json_tokens j) (members_tokens ms) last)),
    omega arith,
    h,
  )

  pub end_before : (t : Token) (first : Expected) → ends t first ≡ true → length more ≤ max_depth
      → AreExpected more rest → AreExpected (first ∷ more) (t ∷ rest)
  end_before end_array Item e within h = (no_items, rest, refl, omega arith, h)
  end_before end_object Key e within h = (no_members, rest, refl, omega arith, h)
  end_before _ _ e within h = absurd cc

-- a bracket opens a value
module _ (first after : Expected) (pass : (j : Json) → (more : List Expected) → (rest : List Token)
    → depth j + length more ≤ max_depth → AreExpected (after ∷ more) rest
    → AreExpected (first ∷ more) (json_tokens j ++ rest)) (more : List Expected) (rest : List Token) where
  array_before : AreExpected (Item ∷ after ∷ more) rest → AreExpected (first ∷ more) (begin_array ∷ rest)
  array_before (js, left, is, within, h) =
      subst (λ ts. AreExpected (first ∷ more) (begin_array ∷ ts)) (sym is)
      (pass (array js) more left (omega arith) h)

  object_before : AreExpected (Key ∷ after ∷ more) rest → AreExpected (first ∷ more) (begin_object ∷ rest)
  object_before (ms, left, is, within, h) =
      subst (λ ts. AreExpected (first ∷ more) (begin_object ∷ ts)) (sym is)
      (pass (object ms) more left (omega arith) h)

  pub begin_array_before : (all : List Expected) → all ≡ Item ∷ after ∷ more → AreExpected all rest
      → AreExpected (first ∷ more) (begin_array ∷ rest)
  begin_array_before all is h = array_before (subst (λ es. AreExpected es rest) is h)

  pub begin_object_before : (all : List Expected) → all ≡ Key ∷ after ∷ more → AreExpected all rest
      → AreExpected (first ∷ more) (begin_object ∷ rest)
  begin_object_before all is h = object_before (subst (λ es. AreExpected es rest) is h)
