-- A text has one listing of variables. For a text of the grammar it lists those of the items, as its template
-- looks them up.
use Rattle.std.proofs.Common.{rules, ◌≡◌, ℕ, ◌+◌, zero, suc, false, List, [], ◌∷◌, ◌++◌, length, map, Some, refl, sym, ap, ◌∙◌, append_assoc, append-nil, arith}
use Rattle.std.proofs.lemmas.List.{length-map, map-append}
use Rattle.std.proofs.lemmas.Simd.{map-map}
use Rattle.subst_foreign.proofs.OneReading.{some_text}
use Rattle.subst_foreign.proofs.OneToken.{same_token}
use Rattle.subst_foreign.specs.Foreign.{is_inside}
use Rattle.subst_foreign.specs.Grammar.{Grammar, Head, Short, Braced, Optional, Opened, head_text}
use Rattle.subst_foreign.specs.Reading.{Token, IsToken, Listing, VariableAt, depth_after, listed_at, token_text, without_place}
use Rattle.subst_foreign.specs.Reading as tokens
use Rattle.subst_foreign.specs.Reading.Listing.{ended, token}
use Rattle.subst_foreign.specs.Template.{template_name, IsTemplate}
use Rattle.subst_foreign.specs.Text.{Item, Text, Variable, Empty, Then, IsItem, IsText, item_spelling, item_variables, spelling, variables_of}
use Rattle.subst_foreign.specs.Text as text
use Rattle.subst_foreign.specs.declared.forms.Missing.{Missing}
use Rattle.subst_language.proofs.Language.OneTreeLemmas.{tree_unique}
use Rattle.subst_language.proofs.Language.VariablesLemmas.{variable_names}
use Rattle.subst_language.specs.Language.Bytes.{closing_brace}
use Rattle.subst_language.specs.Language.Sentence.{Spells}
use Rattle.subst_language.specs.Language.Tree.{Tree}
use Rattle.subst_language.specs.Language.Variables as template

-- equal texts have equal listings
listings_same : (g : Grammar) (position depth : ℕ) (s z : List ℕ) (v w : List VariableAt)
    → Listing g position depth s v → Listing g position depth z w → s ≡ z → v ≡ w
listings_same g position depth _ _ _ _ ended ended same = refl
listings_same g position depth _ _ _ _ ended (token u y too after) same = search (rules, some_text)
listings_same g position depth _ _ _ _ (token t x is next) ended same = search (rules, some_text)
listings_same g position depth _ _ _ _ (token {variables = v} t x is next) (token {variables = w} u y too more)
    same =
    let tokens = same_token g depth t u x y is too same in
    let at = position + length (token_text t) in
    let rests = listings_same g at (depth_after depth t) x y v w next (rw tokens.0 more) tokens.1 in
    cc (tokens.0, rests)

-- a text has one listing
pub same_listing : (g : Grammar) (position depth : ℕ) (s : List ℕ) (v w : List VariableAt)
    → Listing g position depth s v → Listing g position depth s w → v ≡ w
same_listing g position depth s v w is other = listings_same g position depth s s v w is other refl

-- a text has a listing of these variables from any position on
abbrev ListsOn : Grammar → (depth : ℕ) → List ℕ → List Variable → Type 0
ListsOn g depth s variables =
    (position : ℕ) → (v : List VariableAt) × Listing g position depth s v × (map without_place v ≡ variables)

-- a token adds its variable to the listing of the rest
token_lists : (g : Grammar) (depth : ℕ) (t : Token) (x : List ℕ) (first more : List Variable) → IsToken g depth t x
    → ((position : ℕ) → map without_place (listed_at position t) ≡ first) → ListsOn g (depth_after depth t) x more
    → ListsOn g depth (token_text t ++ x) (first ++ more)
token_lists g depth t x first more is of next position =
    let (v, lists, same) = next (position + length (token_text t)) in (
      listed_at position t ++ v,
      token t x is lists,
      map-append without_place (listed_at position t) v ∙ cc (of position, same),
    )

-- a closing brace adds no variable
closes_list : (g : Grammar) (depth : ℕ) (x : List ℕ) (more : List Variable) → ListsOn g depth x more
    → ListsOn g (suc depth) (closing_brace ∷ x) more
closes_list g depth x more next =
    token_lists g (suc depth) tokens.Closing x [] more (omega arith) (λ position. refl) next

-- the variable of a head is that of its item
head_listed : (position : ℕ) (h : Head) → map without_place (listed_at position (tokens.Whole h))
    ≡ item_variables (text.Whole h)
head_listed position (Short n) = refl
head_listed position (Braced n) = refl
head_listed position (Optional n) = refl
head_listed position _ = refl

mutual
  -- an item adds its variables to the listing of the rest
  item_lists : (g : Grammar) (depth : ℕ) (item : Item) (x : List ℕ) (more : List Variable)
      → IsItem g (is_inside depth) item x → ListsOn g depth x more
      → ListsOn g depth (item_spelling item ++ x) (item_variables item ++ more)
  item_lists g depth (text.Byte b) x more is next =
      token_lists g depth (tokens.Byte b) x [] more is (λ position. refl) next
  item_lists g depth (text.Whole h) x more is next =
      token_lists g depth (tokens.Whole h) x (item_variables (text.Whole h)) more is
      (λ position. head_listed position h) next
  item_lists g depth (text.Operated n op t) x more is next =
      rw (append_assoc (head_text (Opened n op)) (spelling t ++ closing_brace ∷ []) x)
      (rw (append_assoc (spelling t) (closing_brace ∷ []) x)
      (token_lists g depth (tokens.Opens n op) (spelling t ++ closing_brace ∷ x)
      (record { name = n; operator = Some op } ∷ []) (variables_of t ++ more) (is.0, is.1) (λ position. refl)
      (text_lists g (suc depth) t (closing_brace ∷ x) more is.2 (closes_list g depth x more next))))
  item_lists g depth (text.Required n op m) x more is next =
      token_lists g depth (tokens.Required n op m) x (record { name = n; operator = Some op } ∷ []) more is
      (λ position. refl) next
  item_lists g zero (text.Group t) x more is next = absurd cc
  item_lists g (suc depth) (text.Group t) x more is next =
      rw (append_assoc (spelling t) (closing_brace ∷ []) x)
      (token_lists g (suc depth) tokens.Opening (spelling t ++ closing_brace ∷ x) [] (variables_of t ++ more)
      (omega arith, is.1) (λ position. refl)
      (text_lists g (suc (suc depth)) t (closing_brace ∷ x) more is.2 (closes_list g (suc depth) x more next)))

  -- a text adds its variables to the listing of the rest
  text_lists : (g : Grammar) (depth : ℕ) (t : Text) (x : List ℕ) (more : List Variable)
      → IsText g (is_inside depth) t x → ListsOn g depth x more
      → ListsOn g depth (spelling t ++ x) (variables_of t ++ more)
  text_lists g depth Empty x more is next = next
  text_lists g depth (Then item rest) x more is next =
      rw (append_assoc (item_spelling item) (spelling rest) x)
      (rw (append_assoc (item_variables item) (variables_of rest) more)
      (item_lists g depth item (spelling rest ++ x) (variables_of rest ++ more) is.0
      (text_lists g depth rest x more is.1 next)))

-- a text of the grammar has the variables of its items
pub text_is_listed : (g : Grammar) (t : Text) → IsText g false t [] → (v : List VariableAt)
    → Listing g 0 0 (spelling t) v → map without_place v ≡ variables_of t
text_is_listed g t is v listing =
    let (w, lists, same) = text_lists g 0 t [] [] is (λ position. ([], ended, refl)) 0 in
    ap (map without_place)
    (listings_same g 0 0 (spelling t) (spelling t ++ []) v w listing lists (sym (append-nil (spelling t))))
    ∙ same ∙ append-nil (variables_of t)

-- the variables of a template for a text are those of the text, in one order
pub names_in_template : (g : Grammar) (unset : Missing) (s source : List ℕ) → IsTemplate g unset s source
    → (tree : Tree) → Spells tree source → (v : List VariableAt) → Listing g 0 0 s v
    → map template.name_of (template.variables_of 0 tree)
    ≡ map (λ each. template_name g.forms each.operator each.name) v
names_in_template g unset s source is tree spells v listing =
    search (rules, variable_names, tree_unique, text_is_listed, map-map, without_place)

-- a template for a text has as many variables as the text
pub as_many : (g : Grammar) (unset : Missing) (s source : List ℕ) → IsTemplate g unset s source → (tree : Tree)
    → Spells tree source → (v : List VariableAt) → Listing g 0 0 s v
    → length (template.variables_of 0 tree) ≡ length v
as_many g unset s source is tree spells v listing =
    sym (length-map (template.variables_of 0 tree) template.name_of)
    ∙ ap length (names_in_template g unset s source is tree spells v listing)
    ∙ length-map v (λ each. template_name g.forms each.operator each.name)
