-- Turns outside brackets keep the events nested.
use Rattle.std.proofs.Common.{◌≡◌, ℕ, zero, suc, ◌+◌, ◌-◌, ◌≤◌, Bool, true, false, not, ◌&&◌, ◌||◌, ◌==◌, List, [], ◌∷◌, ◌++◌, Option, Some, None, length, length-append, slice_get, subst, take, refl, sym, ap, ◌∙◌, arith}
use Rattle.std.specs.Prelude.{IfSome, if◌then◌else◌, nat_lt, option_map}
use Rattle.std.proofs.lemmas.List.{length-map, length-take, map-append, take-map, take_all}
use Rattle.std.proofs.lemmas.Option.{slice_get-map}
use Rattle.subst_yaml_reader.specs.Block.{after_mark, block_lines, block_scalar, block_style, block_turn, content, document, entry, fresh_turn, has_any, is_alias, is_entry, is_mapping_at, is_sequence, is_sequence_at, is_start, is_value, item, key, keyed_block, keyed_or_value, line_turn, may_open, node, opened_for, properties_alone, scalar_node, shallower, taken, value, value_end, without_blocks, without_deeper, without_sequence}
use Rattle.subst_yaml_reader.specs.Bytes.{begins, colon, greater_than, hyphen, is_document_mark, is_mark, opening_curly, opening_square, vertical_bar}
use Rattle.subst_yaml_reader.specs.Nesting.{Nest, after_event, after_events, entered, has_none, is_kind}
use Rattle.subst_yaml_reader.specs.Runs.{after_blanks}
use Rattle.subst_yaml_reader.specs.Scalar.{Spot, after_byte, colon_follows, header, joined, node_properties, scalar}
use Rattle.subst_yaml_reader.specs.State.{State, column_of, emit, innermost, outer_column, push_block, span_of, with_next}
use Rattle.subst_yaml_reader.specs.declared.block.Role.{Role}
use Rattle.subst_yaml_reader.specs.declared.block.Role.TheVariants.{Open, Entry, Inline}
use Rattle.subst_yaml_reader.specs.declared.event.Event.{Event}
use Rattle.subst_yaml_reader.specs.declared.event.Event.TheVariants.{Document, Item, Key, Value}
use Rattle.subst_yaml_reader.specs.declared.event.Style.{Style}
use Rattle.subst_yaml_reader.specs.declared.reader.Collection.{Collection}
use Rattle.subst_yaml_reader.specs.declared.reader.Kind.{Kind}
use Rattle.subst_yaml_reader.specs.declared.reader.Kind.TheVariants.{Sequence, Mapping}
use Rattle.subst_yaml_reader.specs.declared.reader.Next.{Next}
use Rattle.subst_yaml_reader.specs.declared.reader.Next.TheVariants as next
use Rattle.subst_yaml_reader.specs.declared.scalar.Properties.{Properties}
use Rattle.subst_yaml_reader.proofs.FlowNests.{open_bracket_tied, token_tied}
use Rattle.subst_yaml_reader.proofs.NestLemmas.{IsTied, IsTiedTurn, Tied, and_false, and_then, bind_some, emitted, if_some, is_ended, kinds, pending_tied, placed_tied}

module _ (m : Nest) where
  first_of_both : (x y : Bool) → (x && y) ≡ true → x ≡ true
  first_of_both true y both = refl
  first_of_both false y both = cc

  last_of_both : (x y : Bool) → (x && y) ≡ true → y ≡ true
  last_of_both true y both = both
  last_of_both false y both = cc

  not_not : (x : Bool) → not x ≡ false → x ≡ true
  not_not true is = refl
  not_not false is = cc

  value_not_ended : (to : Next) → is_value to ≡ true → is_ended to ≡ false
  value_not_ended next.Start is = cc
  value_not_ended next.Ended is = cc
  value_not_ended next.Value is = refl
  value_not_ended next.Done is = cc
  value_not_ended next.Member is = cc

  -- a value is due
  record Ready (s : State) (n : Nest) : Type 0 where
    tied : Tied m s n
    outside : s.brackets ≡ []
    value : is_value s.next ≡ true

  no_brackets : (s : State) (n : Nest) → Ready s n → n.brackets ≡ []
  no_brackets s n r = r.tied.brackets ∙ r.outside

  due : (s : State) (n : Nest) → Ready s n → n.is_due ≡ true
  due s n r = r.tied.due (rw (value_not_ended s.next r.value) refl) ∙ rw (r.outside, r.value) refl

  blocks_of : (s : State) (n : Nest) → Ready s n → n.blocks ≡ kinds s.blocks
  blocks_of s n r = r.tied.blocks (rw (value_not_ended s.next r.value) refl)

  value_tied : (properties : Properties) (style : Style) (indent : ℕ) (s : State) (text rest : List ℕ)
      (n : Nest)
      → Ready s n → IfSome (value false properties style indent s text rest) (IsTied m)
  unfolding value
  value_tied properties style indent s text rest n r =
      and_then (IsTied m) (joined s.pending properties) _ (λ both is.
      if_some (IsTied m) (is_alias style && has_any both) None _ (λ _. tt) (λ _. (
        record n { is_due = false },
        record {
          nested = emitted s.events (Value style (span_of s text rest) false indent) m n
              (record n { is_due = false })
              r.tied.nested (rw (no_brackets s n r, due s n r) refl);
          brackets = r.tied.brackets;
          due = λ _. sym (and_false (has_none s.brackets));
          blocks = λ _. blocks_of s n r;
          start = λ start. cc;
        },
      )))

  -- an entry of a collection without brackets
  abbrev entry_nest : State → Nest
  entry_nest s = record { blocks = kinds s.blocks; brackets = []; is_due = true }

  record Enters (kind : Kind) (s : State) (n : Nest) : Type 0 where
    nested : after_events s.events m ≡ Some n
    outside : s.brackets ≡ []
    enters : entered kind (length s.blocks) n ≡ Some (entry_nest s)

  entry_tied : (kind : Kind) (e : Event) (s : State) (n : Nest) → Enters kind s n
      → after_event e n ≡ entered kind (length s.blocks) n → IsTied m (with_next next.Value (emit e s))
  entry_tied kind e s n r is = (
    entry_nest s,
    record {
      nested = emitted s.events e m n (entry_nest s) r.nested (is ∙ r.enters);
      brackets = sym r.outside;
      due = λ _. sym (rw r.outside refl);
      blocks = λ _. refl;
      start = λ start. cc;
    },
  )

  item_tied : (s : State) (text : List ℕ) (n : Nest) → Enters Sequence s n → IfSome (item s text) (IsTiedTurn m)
  unfolding item
  item_tied s text n r = placed_tied m _ _ (with_next next.Value (emit (Item (length s.blocks)) s))
      (entry_tied Sequence (Item (length s.blocks)) s n r refl)

  -- the events that a node of this role may begin with
  record MayBe (role : Role) (s : State) (n : Nest) : Type 0 where
    as_key : (t : State) → opened_for role s ≡ Some t → Enters Mapping t n
    as_value : is_entry role ≡ false → Ready s n

  key_tied : (role : Role) (style : Style) (s : State) (text rest : List ℕ) (n : Nest) → MayBe role s n
      → IfSome (key role style s text rest) (IsTiedTurn m)
  unfolding key
  key_tied role style s text rest n may = and_then (IsTiedTurn m) (opened_for role s) _ (λ t is.
      (token_tied m) (after_byte colon (after_blanks rest)) (keyed_block style (span_of t text rest) t)
      (entry_tied Mapping (Key (length t.blocks) style (span_of t text rest)) t n (may.as_key t is) refl))

  keyed_or_value_tied : (role : Role) (properties : Properties) (s : State) (text at : List ℕ)
      (found : Style × List ℕ) (n : Nest) → MayBe role s n
      → IfSome (keyed_or_value role properties s text at found) (IsTiedTurn m)
  keyed_or_value_tied role properties s text at (style, rest) n may =
      if_some (IsTiedTurn m) (colon_follows false style (after_blanks rest)) _ _
      (λ _. if_some (IsTiedTurn m) _ None _ (λ _. tt) (λ _. key_tied role style s at rest n may))
      (λ _. if_some (IsTiedTurn m) (is_entry role) None _ (λ _. tt) (λ other.
      bind_some (IsTied m) (IsTiedTurn m) (value false properties style 0 s at (value_end s style rest)) _
      (value_tied properties style 0 s at (value_end s style rest) n (may.as_value other))
      (λ t tied. token_tied m (value_end s style rest) t tied)))

  scalar_node_tied : (role : Role) (properties : Properties) (s : State) (text at : List ℕ) (n : Nest)
      → MayBe role s n
      → IfSome (scalar_node role properties s text at) (IsTiedTurn m)
  unfolding scalar_node
  scalar_node_tied role properties s text at n may = and_then (IsTiedTurn m) (scalar false at) _ (λ found is.
      keyed_or_value_tied role properties s text at found n may)

  block_scalar_tied : (properties : Properties) (b : ℕ) (s : State) (rest text : List ℕ) (n : Nest) → Ready s n
      → IfSome (block_scalar properties b s rest text) (IsTiedTurn m)
  unfolding block_scalar
  block_scalar_tied properties b s rest text n r =
      and_then (IsTiedTurn m) (outer_column s) _ (λ column is.
      and_then (IsTiedTurn m) (header rest) _ (λ found heads.
      and_then (IsTiedTurn m) (block_lines column found) _ (λ lines ends.
      bind_some (IsTied m) (IsTiedTurn m) (value false properties (block_style b) lines.0 s text lines.1) _
      (value_tied properties (block_style b) lines.0 s text lines.1 n r)
      (λ t tied. placed_tied m _ _ t tied))))

  content_tied : (role : Role) (properties : Properties) (s : State) (text at : List ℕ) (n : Nest)
      → MayBe role s n
      → IfSome (content role properties s text at) (IsTiedTurn m)
  unfolding content
  content_tied role properties s text [] n may = tt
  content_tied role properties s text (b ∷ rest) n may =
      if_some (IsTiedTurn m) (b == opening_square || b == opening_curly) _ _
      (λ _. if_some (IsTiedTurn m) (is_entry role) None _ (λ _. tt) (λ other. let r = may.as_value other in
      (open_bracket_tied m) properties b s rest n r.tied.nested r.tied.brackets (blocks_of s n r)
      (rw (no_brackets s n r, due s n r) refl)))
      (λ _. if_some (IsTiedTurn m) (b == vertical_bar || b == greater_than) _ _
      (λ _. if_some (IsTiedTurn m) (is_entry role) None _ (λ _. tt)
      (λ other. block_scalar_tied properties b s rest (b ∷ rest) n (may.as_value other)))
      (λ _. scalar_node_tied role properties s text (b ∷ rest) n may))

  alone_tied : (role : Role) (properties : Properties) (spot : Spot) (s : State) (n : Nest) → MayBe role s n
      → IfSome (properties_alone role properties spot s) (IsTiedTurn m)
  alone_tied role properties spot s n may = if_some (IsTiedTurn m) (is_entry role) None _ (λ _. tt) (λ other.
      and_then (IsTiedTurn m) (joined s.pending properties) _ (λ both is.
      (pending_tied m) spot.0 spot.1 both s (n, (may.as_value other).tied)))

  node_tied : (role : Role) (s : State) (text : List ℕ) (n : Nest) → MayBe role s n
      → IfSome (node role s text) (IsTiedTurn m)
  unfolding node
  node_tied role s text n may = and_then (IsTiedTurn m) (node_properties false s.line text) _ (λ found is.
      if_some (IsTiedTurn m) found.1.0 _ _ (λ _. alone_tied role found.0 found.1 s n may)
      (λ _. content_tied role found.0 s text found.1.2 n may))

  -- the next entry of an open collection
  record Prefix (s : State) (n : Nest) : Type 0 where
    nested : after_events s.events m ≡ Some n
    outside : s.brackets ≡ []
    none : n.brackets ≡ []
    within : length s.blocks ≤ length n.blocks
    blocks : take (length s.blocks) n.blocks ≡ kinds s.blocks

  within_lt : (a b : ℕ) → b ≤ a → nat_lt a b ≡ false
  within_lt a b within = grind arith

  prefix_enters : (kind : Kind) (s : State) (n : Nest) → Prefix s n
      → is_kind kind (innermost (kinds s.blocks)) ≡ true
      → Enters kind s n
  prefix_enters kind s n p is = record {
    nested = p.nested;
    outside = p.outside;
    enters = rw (p.none, p.blocks, is, within_lt (length n.blocks) (length s.blocks) p.within) refl;
  }

  last_kind : (blocks : List Collection)
      → innermost (kinds blocks) ≡ option_map (λ block. block.kind) (innermost blocks)
  last_kind blocks = ap (λ k. innermost_at k) (length-map blocks (λ block. block.kind))
      ∙ slice_get-map (λ block. block.kind) blocks (length blocks - 1)
    where
      innermost_at : ℕ → Option Kind
      innermost_at k = slice_get (kinds blocks) (k - 1)

  sequence_kind : (column : ℕ) (o : Option Collection) → is_sequence_at column o ≡ true
      → is_kind Sequence (option_map (λ block. block.kind) o) ≡ true
  sequence_kind column None is = cc
  sequence_kind column (Some block) is = first_of_both (is_sequence block.kind) (block.column == column) is

  mapping_kind : (column : ℕ) (o : Option Collection) → is_mapping_at column o ≡ true
      → is_kind Mapping (option_map (λ block. block.kind) o) ≡ true
  mapping_kind column None is = cc
  mapping_kind column (Some block) is = first_of_both (not (is_sequence block.kind)) (block.column == column) is

  entry_turn_tied : (column : ℕ) (is_item : Bool) (s : State) (text : List ℕ) (n : Nest) → Prefix s n
      → IfSome (entry column is_item s text) (IsTiedTurn m)
  unfolding entry
  entry_turn_tied column is_item s text n p =
      if_some (IsTiedTurn m) (is_item && is_sequence_at column (innermost s.blocks)) _ _
      (λ is. item_tied s text n (prefix_enters Sequence s n p (ap (is_kind Sequence) (last_kind s.blocks)
      ∙ sequence_kind column (innermost s.blocks) (last_of_both is_item _ is))))
      (λ _. if_some (IsTiedTurn m) (not is_item && is_mapping_at column (innermost s.blocks)) _ None
      (λ is. node_tied Entry s text n (record {
        as_key = λ t opens. let same : s ≡ t = cc in subst (λ x. Enters Mapping x n) same
            (prefix_enters Mapping s n p (ap (is_kind Mapping) (last_kind s.blocks)
            ∙ mapping_kind column (innermost s.blocks) (last_of_both (not is_item) _ is)));
        as_value = λ other. cc;
      })) (λ _. tt))

  abbrev IsTaken : List Collection → List Collection → Type 0
  IsTaken blocks part = (k : ℕ) × (part ≡ take k blocks)

  take_of_take : {A : Type 0} (m k : ℕ) (xs : List A) → (j : ℕ) × (take m (take k xs) ≡ take j xs)
  take_of_take zero k xs = (0, refl)
  take_of_take (suc m) zero xs = (0, refl)
  take_of_take (suc m) (suc k) [] = (0, refl)
  take_of_take (suc m) (suc k) (x ∷ xs) = let later = take_of_take m k xs in
      (suc later.0, ap (λ ys. x ∷ ys) later.1)

  taken_is : (blocks : List Collection) (o : Option ℕ) → IsTaken blocks (taken blocks o)
  taken_is blocks None = (length blocks, sym (take_all (length blocks) blocks (omega arith)))
  taken_is blocks (Some k) = (k, refl)

  shallower_is : (column : ℕ) (is_item : Bool) (blocks deeper : List Collection) → IsTaken blocks deeper
      → IsTaken blocks (without_sequence column is_item deeper)
  shallower_is column is_item blocks deeper (k, is) =
      at (not is_item && is_sequence_at column (innermost deeper))
    where
      at : (c : Bool) → IsTaken blocks (if c then take (length deeper - 1) deeper else deeper)
      at true = let part = take_of_take (length deeper - 1) k blocks in
          (part.0, ap (take (length deeper - 1)) is ∙ part.1)
      at false = (k, is)

  take_len : {A : Type 0} (k : ℕ) (xs : List A) → take (length (take k xs)) xs ≡ take k xs
  take_len zero xs = refl
  take_len (suc k) [] = refl
  take_len (suc k) (x ∷ xs) = ap (λ ys. x ∷ ys) (take_len k xs)

  prefix_of : (column : ℕ) (is_item : Bool) (s : State) (n : Nest) → Tied m s n → s.brackets ≡ []
      → n.blocks ≡ kinds s.blocks → Prefix (shallower column is_item s) n
  unfolding shallower
  prefix_of column is_item s n t outside blocks =
      let part = shallower_is column is_item s.blocks (without_deeper column s.blocks) (taken_is s.blocks _) in
      let len = length-map s.blocks (λ block. block.kind) in
      record {
        nested = t.nested;
        outside = outside;
        none = t.brackets ∙ outside;
        within = rw (part.1, blocks) (omega (arith, len, length-take part.0 s.blocks));
        blocks = rw (part.1, blocks)
            (ap (λ k. take k (kinds s.blocks)) (sym (length-map (take part.0 s.blocks) (λ block. block.kind))
            ∙ ap length (sym (take-map (λ block. block.kind) part.0 s.blocks)))
            ∙ take_len part.0 (kinds s.blocks) ∙ take-map (λ block. block.kind) part.0 s.blocks);
      }

  -- a collection begins
  pushed_enters : (kind : Kind) (column : ℕ) (s : State) (n : Nest) → Ready s n
      → Enters kind (push_block kind column s) n
  pushed_enters kind column s n r =
      let long : length (s.blocks ++ record { kind = kind; column = column } ∷ []) ≡ length s.blocks + 1 =
      omega (arith, length-append s.blocks (record { kind = kind; column = column } ∷ [])) in
      let deeper : nat_lt (length s.blocks) (length s.blocks + 1) ≡ true = grind arith in
      let next_depth : (length s.blocks + 1 == length s.blocks + 1) ≡ true = grind arith in
      record {
        nested = r.tied.nested;
        outside = r.outside;
        enters = rw (
          no_brackets s n r,
          due s n r,
          blocks_of s n r,
          long,
          length-map s.blocks (λ block. block.kind),
          deeper,
          next_depth,
          map-append (λ block. block.kind) s.blocks (record { kind = kind; column = column } ∷ []),
        ) refl;
      }

  line_turn_tied : (column : ℕ) (s : State) (text : List ℕ) (n : Nest) → Tied m s n → s.brackets ≡ []
      → is_ended s.next ≡ false → IfSome (line_turn column s text) (IsTiedTurn m)
  unfolding line_turn
  line_turn_tied column s text n t outside going =
      let blocks = t.blocks (rw going refl) in
      if_some (IsTiedTurn m) (not (may_open column (is_mark hyphen text) s)) _ _
      (λ _. entry_turn_tied column (is_mark hyphen text) (shallower column (is_mark hyphen text) s) text n
      (prefix_of column (is_mark hyphen text) s n t outside blocks))
      (λ may. let r : Ready s n = record {
        tied = t;
        outside = outside;
        value = first_of_both (is_value s.next) _ (not_not _ may);
      } in if_some (IsTiedTurn m) (is_mark hyphen text) _ _
      (λ _. item_tied (push_block Sequence column s) text n (pushed_enters Sequence column s n r))
      (λ _. node_tied (Open column) s text n (record {
        as_key = λ u opens. let same : push_block Mapping column s ≡ u = cc in
            subst (λ x. Enters Mapping x n) same (pushed_enters Mapping column s n r);
        as_value = λ _. r;
      })))

  -- a document begins
  document_nest : Nest
  document_nest = record { blocks = []; brackets = []; is_due = true }

  document_tied : (s : State) (n : Nest) → Tied m s n → s.brackets ≡ [] → s.blocks ≡ []
      → Tied m (with_next next.Value (emit Document s)) document_nest
  unfolding document_nest
  document_tied s n t outside blocks = record {
    nested = emitted s.events Document m n document_nest t.nested (rw (t.brackets, outside) refl);
    brackets = sym outside;
    due = λ _. sym (rw outside refl);
    blocks = λ _. sym (ap kinds blocks);
    start = λ start. cc;
  }

  fresh_turn_tied : (column : ℕ) (s : State) (text : List ℕ) (n : Nest) → Tied m s n → s.brackets ≡ []
      → IfSome (fresh_turn column s text) (IsTiedTurn m)
  unfolding fresh_turn
  fresh_turn_tied column s text n t outside = by_next s.next refl
    where
      by_next : (to : Next) → s.next ≡ to → IfSome (elim to [
        | next.Start ↦ line_turn column (with_next next.Value (emit Document s)) text
        | next.Value ↦ line_turn column s text
        | next.Done ↦ line_turn column s text
        | next.Ended ↦ None
        | next.Member ↦ None
      ]) (IsTiedTurn m)
      by_next next.Start is = line_turn_tied column (with_next next.Value (emit Document s)) text document_nest
          (document_tied s n t outside (t.start (ap is_start is))) outside refl
      by_next next.Value is = line_turn_tied column s text n t outside (ap is_ended is)
      by_next next.Done is = line_turn_tied column s text n t outside (ap is_ended is)
      by_next next.Ended is = tt
      by_next next.Member is = tt

  mark_tied : (s : State) (text : List ℕ) (n : Nest) → Tied m s n → s.brackets ≡ []
      → IfSome (document s text) (IsTiedTurn m)
  unfolding document document_nest
  mark_tied s text n t outside = if_some (IsTiedTurn m) (begins hyphen text) _ _
      (λ _. token_tied m (after_mark text) (without_blocks (with_next next.Value (emit Document s))) (
        document_nest,
        record {
          nested = emitted s.events Document m n document_nest t.nested (rw (t.brackets, outside) refl);
          brackets = sym outside;
          due = λ _. sym (rw outside refl);
          blocks = λ _. refl;
          start = λ start. cc;
        },
      ))
      (λ _. if_some (IsTiedTurn m) (is_start s.next) None _ (λ _. tt)
      (λ _. token_tied m (after_mark text) (without_blocks (with_next next.Ended s)) (
        n,
        record {
          nested = t.nested;
          brackets = t.brackets;
          due = λ going. absurd_end going;
          blocks = λ going. absurd_end going;
          start = λ start. cc;
        },
      )))
    where
      absurd_end : {A : Type 0} → (true && has_none s.brackets) ≡ false → A
      absurd_end going = let none : has_none s.brackets ≡ true = rw outside refl in cc

  pub block_turn_tied : (s : State) (text : List ℕ) (n : Nest) → Tied m s n → s.brackets ≡ []
      → IfSome (block_turn s text) (IsTiedTurn m)
  unfolding block_turn
  block_turn_tied s text n t outside = if_some (IsTiedTurn m) (not s.fresh) _ _
      (λ _. if_some (IsTiedTurn m) (is_value s.next) _ None
      (λ is. node_tied Inline s text n (record {
        as_key = λ u opens. cc;
        as_value = λ _. record { tied = t; outside = outside; value = is };
      })) (λ _. tt))
      (λ _. if_some (IsTiedTurn m) (column_of s text == 0 && is_document_mark text) _ _
      (λ _. mark_tied s text n t outside) (λ _. fresh_turn_tied (column_of s text) s text n t outside))
