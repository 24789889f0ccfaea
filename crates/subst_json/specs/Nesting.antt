-- The remaining tokens of a text, described by the parts that are expected.
use Rattle.std.specs.Prelude.{◌≡◌, ◌≤◌, ◌+◌, ℕ, List, [], ◌∷◌, ◌++◌, length, reverse}
use Rattle.json.specs.Json.{Json}
use Rattle.json.specs.Token.{Token}
use Rattle.json.specs.Tree.{depth, items_depth, members_depth, json_tokens, items_tokens, members_tokens}
use Rattle.serde_json.specs.Read.{max_depth}
use Rattle.subst_json.specs.declared.nesting.Expected.{Expected}
use Rattle.subst_json.specs.declared.nesting.Expected.TheVariants.{Value, Member, Item, Key, End}
use Rattle.subst_json.specs.declared.nesting.Nesting.{Nesting}

-- the tokens of one value that nests no deeper than the reader allows
abbrev pub AreOfValue : List Token → Type 0
AreOfValue ts = (j : Json) × (ts ≡ json_tokens j) × (depth j ≤ max_depth)

-- The tokens `ts` begin with the tokens of a value, of items or of members, and `More` holds of the rest.
-- Inside `outer` open brackets, this beginning nests no deeper than the reader allows.
abbrev pub Begins : {T : Type 0} → (T → List Token) → (T → ℕ) → ℕ → (List Token → Type 0) → List Token → Type 0
Begins {T} tokens_of depth_of outer More ts = (it : T) × (rest : List Token) × (ts ≡ tokens_of it ++ rest)
    × (depth_of it + outer ≤ max_depth) × More rest

-- the tokens begin with the expected part, and `More` holds of the rest; the part of `Item` extends to the
-- end of the array, and that of `Member` or `Key` to the end of the object
abbrev pub BeginsWith : Expected → ℕ → (List Token → Type 0) → List Token → Type 0
BeginsWith Value outer More ts = Begins json_tokens depth outer More ts
BeginsWith Member outer More ts =
    Begins json_tokens depth outer (Begins members_tokens members_depth outer More) ts
BeginsWith Item outer More ts = Begins items_tokens items_depth outer More ts
BeginsWith Key outer More ts = Begins members_tokens members_depth outer More ts
BeginsWith End outer More ts = More ts

-- the tokens are those of the expected parts, one after another
abbrev pub AreExpected : List Expected → List Token → Type 0
AreExpected [] ts = ts ≡ []
AreExpected (first ∷ more) ts = BeginsWith first (length more) (AreExpected more) ts

-- all expected parts: the next one, and then the part after each open array or object, the innermost first
abbrev pub expected : Nesting → List Expected
expected nesting = nesting.next ∷ reverse nesting.outer.items
