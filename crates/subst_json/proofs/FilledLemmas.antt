-- Tokens that are filled in, and the trees they are read as.
use Rattle.std.proofs.Common.{◌≡◌, ℕ, suc, ◌-◌, ◌≤◌, nat_le, length, ◌==◌, eq-eqb, max, Bool, true, false, not, ◌&&◌, List, [], ◌∷◌, ◌++◌, Some, Ordering, Less, Equal, Greater, option_map, option_and_then, refl, sym, ap, ap₂, ◌∙◌, subst, arith, append_assoc, append-nil}
use Rattle.std.specs.Cmp.Lexicographic.{slice_cmp}
use Rattle.std.specs.List.{list_all}
use Rattle.std.specs.Ordering.{match_ordering, nat_cmp}
use Rattle.std.specs.Prelude.{slice_index, slice_range}
use Rattle.std.proofs.lemmas.Bool.{leb-true}
use Rattle.std.proofs.lemmas.Grind.{common_steps}
use Rattle.std.proofs.lemmas.List.{take_more}
use Rattle.json.specs.Json as json
use Rattle.json.specs.Lex.{tokens}
use Rattle.json.specs.Print.{escape, quoted, print_from, ArePrintable}
use Rattle.json.specs.Token.{Token}
use Rattle.json.specs.Tree as tree
use Rattle.json.specs.Tree.{json_tokens, items_tokens, members_tokens}
use Rattle.json.proofs.Printed.Strings.{escape_byte_plain}
use Rattle.json.proofs.Printed.Tokens.{tokens-print}
use Rattle.json.proofs.Printed.Trees.{value-json_tokens}
use Rattle.serde_json.specs.Data.{Data, null, boolean, number, string, array, object, Items, no_items, item, Members, no_members, member, put}
use Rattle.serde_json.specs.Read.{of_json, of_items, of_members, max_depth, read}
use Rattle.subst_json.specs.Filled.{is_plain, AreFilled}
use Rattle.subst_json.specs.Mapped.{IsEach, AreEach, HasEachMember}
use Rattle.subst_json.specs.Nesting.{AreOfValue}
use Rattle.subst_json.specs.Outcome.{ReadsAsTree}
use Rattle.subst_json.specs.Places.{IsTokenOf}

-- the tree of a text, from its tokens
read_as : (text : List ℕ) (j : json.Json) (d : Data)
    → json.value max_depth (tokens text) ≡ Some (j, []) → of_json j ≡ Some d → read text ≡ Some d
read_as text j d e f = ap (λ o. option_and_then of_json (option_and_then (λ p. json.if_last p.0 p.1) o)) e ∙ f

-- a text whose one token is a string is read as that string
pub token_alone : (text x : List ℕ) → tokens text ≡ Token.string x ∷ [] → IsTokenOf text x
token_alone text x e =
    read_as text (json.string x) (string x)
    (ap (json.value max_depth) e ∙ value-json_tokens (json.string x) max_depth [] (omega arith)) refl

both_true : (a b : Bool) → (a && b) ≡ true → (a ≡ true) × (b ≡ true)
both_true true b h = (refl, h)
both_true false b h = absurd cc

other : (a b : ℕ) → not (a == b) ≡ true → a ≡ b → ⊥
other a b h same = let is = eq-eqb a b same in cc

-- a string without bytes to escape is its own spelling
escape_plain : (x : List ℕ) → list_all is_plain x ≡ true → escape x ≡ x
escape_plain [] h = refl
escape_plain (b ∷ x) h =
    let (here, rest) = both_true (is_plain b) (list_all is_plain x) h in
    let (first, no_slash) = both_true (nat_le 32 b && not (b == 34)) (not (b == 92)) here in
    let (no_control, no_quote) = both_true (nat_le 32 b) (not (b == 34)) first in
    ap₂ (λ k l. k ++ l)
    (escape_byte_plain b (other b 34 no_quote) (other b 92 no_slash) (leb-true 32 b no_control))
    (escape_plain x rest)

printed_alone : (x : List ℕ) → tokens (quoted x ++ []) ≡ Token.string x ∷ []
unfolding print_from ArePrintable
printed_alone x = tokens-print (Token.string x ∷ []) (tt, tt)

-- a string without bytes to escape, between quotes, is read as itself
pub plain_token : (x : List ℕ) → list_all is_plain x ≡ true → IsTokenOf (34 ∷ (x ++ 34 ∷ [])) x
plain_token x h =
    token_alone (34 ∷ (x ++ 34 ∷ [])) x
    (subst (λ y. tokens (34 ∷ (y ++ 34 ∷ [])) ≡ Token.string x ∷ []) (escape_plain x h)
    (subst (λ y. tokens y ≡ Token.string x ∷ []) (append-nil (quoted x)) (printed_alone x)))

-- a token is its content between quotes
pub between_quotes : (token x : List ℕ) → 2 ≤ length token → slice_index token 0 ≡ 34
    → slice_index token (length token - 1) ≡ 34 → slice_range token 1 (length token - 1) ≡ x
    → token ≡ 34 ∷ (x ++ 34 ∷ [])
between_quotes [] x within first last same = absurd (omega (arith, within))
between_quotes (b ∷ y) x within first last same =
    grind (arith, common_steps, take_more, within, first, last, same)

by_order : (Becomes : List ℕ → List ℕ → Type 0) (o : Ordering) (a b c d e f : Members)
    → HasEachMember Becomes a d
    → HasEachMember Becomes b e → HasEachMember Becomes c f
    → HasEachMember Becomes (match_ordering o a b c) (match_ordering o d e f)
by_order Becomes Less a b c d e f p q r = p
by_order Becomes Equal a b c d e f p q r = q
by_order Becomes Greater a b c d e f p q r = r

-- filled-in members stay filled in when one more is added
pub put_each : (Becomes : List ℕ → List ℕ → Type 0) (k : List ℕ) (d e : Data) (ms ns : Members)
    → IsEach Becomes d e → HasEachMember Becomes ms ns
    → HasEachMember Becomes (put k d ms) (put k e ns)
put_each Becomes k d e no_members no_members p h = (refl, p, tt)
put_each Becomes k d e no_members (member m g ns) p h = absurd h
put_each Becomes k d e (member l f ms) no_members p h = absurd h
put_each Becomes k d e (member l f ms) (member m g ns) p h =
    subst (λ m'. HasEachMember Becomes (put k d (member l f ms)) (put k e (member m' g ns))) h.0
    (by_order Becomes (slice_cmp nat_cmp k l) (member k d (member l f ms)) (member l d ms)
    (member l f (put k d ms)) (member k e (member l g ns)) (member l e ns) (member l g (put k e ns))
    (refl, p, (refl, h.1, h.2)) (refl, p, h.2) (refl, h.1, put_each Becomes k d e ms ns p h.2))

-- If tokens are filled in, those of a value are the tokens of a value again. Its tree is that of the first
-- value, filled in.
record FilledValue (Becomes : List ℕ → List ℕ → Type 0) (j : json.Json)
    (rest us : List Token) : Type 0 where
  filled : json.Json
  more : List Token
  is : us ≡ json_tokens filled ++ more
  deep : tree.depth filled ≡ tree.depth j
  before : Data
  after : Data
  reads : of_json j ≡ Some before
  reads_filled : of_json filled ≡ Some after
  each : IsEach Becomes before after
  rest_filled : AreFilled Becomes rest more

record FilledItems (Becomes : List ℕ → List ℕ → Type 0) (js : json.Items)
    (rest us : List Token) : Type 0 where
  filled : json.Items
  more : List Token
  is : us ≡ items_tokens filled ++ more
  deep : tree.items_depth filled ≡ tree.items_depth js
  before : Items
  after : Items
  reads : of_items js ≡ Some before
  reads_filled : of_items filled ≡ Some after
  each : AreEach Becomes before after
  rest_filled : AreFilled Becomes rest more

-- the same for members that are added to others
record FilledMembers (Becomes : List ℕ → List ℕ → Type 0) (ms : json.Members)
    (found found_filled : Members) (rest us : List Token) : Type 0 where
  filled : json.Members
  more : List Token
  is : us ≡ members_tokens filled ++ more
  deep : tree.members_depth filled ≡ tree.members_depth ms
  before : Members
  after : Members
  reads : of_members ms found ≡ Some before
  reads_filled : of_members filled found_filled ≡ Some after
  each : HasEachMember Becomes before after
  rest_filled : AreFilled Becomes rest more

module _ (Becomes : List ℕ → List ℕ → Type 0) where
  -- the same for a value of one token
  alone : (j k : json.Json) (d e : Data) (rest us more : List Token) → us ≡ json_tokens k ++ more
      → tree.depth k ≡ tree.depth j → of_json j ≡ Some d → of_json k ≡ Some e → IsEach Becomes d e
      → AreFilled Becomes rest more → FilledValue Becomes j rest us
  alone j k d e rest us more is deep reads reads_filled each h = record {
    filled = k;
    more = more;
    is = is;
    deep = deep;
    before = d;
    after = e;
    reads = reads;
    reads_filled = reads_filled;
    each = each;
    rest_filled = h;
  }

  mutual
    filled_value : (j : json.Json) (rest us : List Token) → AreFilled Becomes (json_tokens j ++ rest) us
        → FilledValue Becomes j rest us
    filled_value json.null rest us (u, more, is, same, h) =
        alone json.null json.null null null rest us more (is ∙ ap (λ t. t ∷ more) same) refl refl refl tt h
    filled_value (json.boolean b) rest us (u, more, is, same, h) =
        alone (json.boolean b) (json.boolean b) (boolean b) (boolean b) rest us more
        (is ∙ ap (λ t. t ∷ more) same) refl refl refl refl h
    filled_value (json.number s) rest us (u, more, is, (same, n, known), h) =
        alone (json.number s) (json.number s) (number n) (number n) rest us more
        (is ∙ ap (λ t. t ∷ more) same) refl (ap (option_map number) known)
        (ap (option_map number) known) refl h
    filled_value (json.string s) rest us (u, more, is, (x, same, becomes), h) =
        alone (json.string s) (json.string x) (string s) (string x) rest us more
        (is ∙ ap (λ t. t ∷ more) same) refl refl refl becomes h
    filled_value (json.array js) rest us (u, more, is, same, h) =
        let i = filled_items js rest more h in
        alone (json.array js) (json.array i.filled) (array i.before) (array i.after) rest us i.more
        (is ∙ ap₂ (λ t ts. t ∷ ts) same i.is) (ap suc i.deep) (ap (option_map array) i.reads)
        (ap (option_map array) i.reads_filled) i.each i.rest_filled
    filled_value (json.object ms) rest us (u, more, is, same, h) =
        let m = filled_members ms no_members no_members rest more tt h in
        alone (json.object ms) (json.object m.filled) (object m.before) (object m.after) rest us m.more
        (is ∙ ap₂ (λ t ts. t ∷ ts) same m.is) (ap suc m.deep) (ap (option_map object) m.reads)
        (ap (option_map object) m.reads_filled) m.each m.rest_filled

    filled_items : (js : json.Items) (rest us : List Token) → AreFilled Becomes (items_tokens js ++ rest) us
        → FilledItems Becomes js rest us
    filled_items json.no_items rest us (u, more, is, same, h) = record {
      filled = json.no_items;
      more = more;
      is = is ∙ ap (λ t. t ∷ more) same;
      deep = refl;
      before = no_items;
      after = no_items;
      reads = refl;
      reads_filled = refl;
      each = tt;
      rest_filled = h;
    }
    filled_items (json.item j js) rest us h =
        let v = filled_value j (items_tokens js ++ rest) us
        (subst (λ ts. AreFilled Becomes ts us) (append_assoc (json_tokens j) (items_tokens js) rest) h) in
        let i = filled_items js rest v.more v.rest_filled in record {
          filled = json.item v.filled i.filled;
          more = i.more;
          is = v.is ∙ ap (λ ts. json_tokens v.filled ++ ts) i.is
              ∙ sym (append_assoc (json_tokens v.filled) (items_tokens i.filled) i.more);
          deep = ap₂ max v.deep i.deep;
          before = item v.before i.before;
          after = item v.after i.after;
          reads = ap (option_and_then (λ d. option_map (item d) (of_items js))) v.reads
              ∙ ap (option_map (item v.before)) i.reads;
          reads_filled = ap (option_and_then (λ d. option_map (item d) (of_items i.filled))) v.reads_filled
              ∙ ap (option_map (item v.after)) i.reads_filled;
          each = (v.each, i.each);
          rest_filled = i.rest_filled;
        }

    filled_members : (ms : json.Members) (found found_filled : Members) (rest us : List Token)
        → HasEachMember Becomes found found_filled → AreFilled Becomes (members_tokens ms ++ rest) us
        → FilledMembers Becomes ms found found_filled rest us
    filled_members json.no_members found found_filled rest us each (u, more, is, same, h) = record {
      filled = json.no_members;
      more = more;
      is = is ∙ ap (λ t. t ∷ more) same;
      deep = refl;
      before = found;
      after = found_filled;
      reads = refl;
      reads_filled = refl;
      each = each;
      rest_filled = h;
    }
    filled_members (json.member k j ms) found found_filled rest us each (u, more, is, same, h) =
        let v = filled_value j (members_tokens ms ++ rest) more
        (subst (λ ts. AreFilled Becomes ts more) (append_assoc (json_tokens j) (members_tokens ms) rest) h) in
        let m = filled_members ms (put k v.before found) (put k v.after found_filled) rest v.more
        (put_each Becomes k v.before v.after found found_filled v.each each) v.rest_filled in record {
          filled = json.member k v.filled m.filled;
          more = m.more;
          is = is ∙ ap₂ (λ t ts. t ∷ ts) same (v.is ∙ ap (λ ts. json_tokens v.filled ++ ts) m.is
              ∙ sym (append_assoc (json_tokens v.filled) (members_tokens m.filled) m.more));
          deep = ap₂ max v.deep m.deep;
          before = m.before;
          after = m.after;
          reads = ap (option_and_then (λ d. of_members ms (put k d found))) v.reads ∙ m.reads;
          reads_filled = ap (option_and_then (λ d. of_members m.filled (put k d found_filled))) v.reads_filled
              ∙ m.reads_filled;
          each = m.each;
          rest_filled = m.rest_filled;
        }

  -- a text, and a text whose tokens are those of the first one, filled in, are read as trees
  pub filled_document : (source output : List ℕ) → AreOfValue (tokens source)
      → AreFilled Becomes (tokens source) (tokens output)
      → ReadsAsTree source (λ d. ReadsAsTree output (IsEach Becomes d))
  filled_document source output (j, is, nests) h =
      let alone : tokens source ≡ json_tokens j ++ [] = is ∙ sym (append-nil (json_tokens j)) in
      let v = filled_value j [] (tokens output) (subst (λ ts. AreFilled Becomes ts (tokens output)) alone h) in
      let filled_nests : tree.depth v.filled ≤ max_depth = omega (arith, v.deep) in
      let filled_alone : tokens output ≡ json_tokens v.filled ++ [] =
      v.is ∙ ap (λ ts. json_tokens v.filled ++ ts) v.rest_filled in (
        v.before,
        read_as source j v.before
            (ap (json.value max_depth) alone ∙ value-json_tokens j max_depth [] nests) v.reads,
        (
          v.after,
          read_as output v.filled v.after
              (ap (json.value max_depth) filled_alone ∙ value-json_tokens v.filled max_depth [] filled_nests)
              v.reads_filled,
          v.each,
        ),
      )
