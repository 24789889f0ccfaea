-- Turns in brackets keep the events nested.
use Rattle.std.proofs.Common.{◌≡◌, ℕ, ◌-◌, Bool, true, false, not, ◌&&◌, ◌||◌, ◌==◌, List, [], ◌∷◌, ◌++◌, Some, None, length, length-append, refl, arith}
use Rattle.std.specs.Prelude.{IfSome, if◌then◌else◌}
use Rattle.subst_yaml_reader.specs.Block.{after_token, has_any, is_alias, open_bracket, bracket_of, value}
use Rattle.subst_yaml_reader.specs.Bytes.{is_document_mark, comma, colon, opening_square, closing_square, opening_curly, closing_curly}
use Rattle.subst_yaml_reader.specs.Flow.{close, close_pair, closing, ended, finished, flow_content, flow_key, flow_scalar, flow_token, flow_turn, is_done, is_flow_key, is_in, is_key_due, is_member, is_node_over, is_of, keyed, lone_key, member, next_entry, scalar_in_flow}
use Rattle.subst_yaml_reader.specs.Nesting.{Nest, after_events, has_none}
use Rattle.subst_yaml_reader.specs.Runs.{after_blanks}
use Rattle.subst_yaml_reader.specs.Scalar.{after_byte, after_gap, colon_follows, joined, node_properties, scalar}
use Rattle.subst_yaml_reader.specs.State.{State, closed, column_of, emit, innermost, opened, span_of, with_next}
use Rattle.subst_yaml_reader.specs.declared.event.Bracket.{Bracket}
use Rattle.subst_yaml_reader.specs.declared.event.Bracket.TheVariants.{Sequence, Mapping, Pair}
use Rattle.subst_yaml_reader.specs.declared.event.Event.TheVariants.{FlowKey, Null, Value}
use Rattle.subst_yaml_reader.specs.declared.event.Span.{Span}
use Rattle.subst_yaml_reader.specs.declared.event.Style.{Style}
use Rattle.subst_yaml_reader.specs.declared.reader.Next.{Next}
use Rattle.subst_yaml_reader.specs.declared.reader.Next.TheVariants as next
use Rattle.subst_yaml_reader.specs.declared.scalar.Properties.{Properties}
use Rattle.subst_yaml_reader.proofs.NestLemmas.{InFlow, IsTied, IsTiedTurn, Tied, and_then, bind_some, closed_nest, flow_closed, flow_emit, flow_next, flow_of, flow_opened, has_some, if_some, kinds, last_of, map_some, opened_nest, pending_tied, placed_tied, settled, settled_value}

module _ (m : Nest) where
  -- the innermost collection is of a kind, so there is one
  inside_of : (b : Bracket) (brackets : List Bracket) → is_of b (innermost brackets) ≡ true
      → has_none brackets ≡ false
  inside_of b [] is = cc
  inside_of b (x ∷ rest) is = refl

  -- after a token
  pub token_tied : (rest : List ℕ) (s : State) → IsTied m s → IfSome (after_token rest s) (IsTiedTurn m)
  token_tied rest s t = placed_tied m (after_gap s.line rest).0 (after_gap s.line rest).1 s t

  value_in_flow : (properties : Properties) (style : Style) (s : State) (text rest : List ℕ) (n : Nest)
      → InFlow m s n → has_none s.brackets ≡ false → IfSome (value true properties style 0 s text rest) (IsTied m)
  unfolding value
  value_in_flow properties style s text rest n f inside =
      and_then (IsTied m) (joined s.pending properties) _ (λ both is.
      if_some (IsTied m) (is_alias style && has_any both) None _ (λ _. tt) (λ _.
      (settled m) next.Done (emit (Value style (span_of s text rest) true 0) s) n
      (flow_emit m (Value style (span_of s text rest) true 0) s n f (rw (f.brackets, inside) refl)) refl refl))

  key_in_flow : (style : Style) (span : Span) (s : State) (n : Nest) → InFlow m s n
      → (is_of Mapping (innermost s.brackets) || is_of Pair (innermost s.brackets)) ≡ true
      → InFlow m (keyed style span s) n
  key_in_flow style span s n f is = flow_next m next.Value (emit (FlowKey style span) s) n
      (flow_emit m (FlowKey style span) s n f (rw (f.brackets, is) refl))

  in_mapping : (s : State) → is_in Mapping s ≡ true
      → (is_of Mapping (innermost s.brackets) || is_of Pair (innermost s.brackets)) ≡ true
  in_mapping s is = rw is refl

  pair_opened : (s : State) → innermost (opened Pair s).brackets ≡ Some Pair
  pair_opened s =
      let at : length (s.brackets ++ Pair ∷ []) - 1 ≡ length s.brackets =
      omega (arith, length-append s.brackets (Pair ∷ [])) in
      rw at (last_of s.brackets Pair)

  flow_key_tied : (style : Style) (span : Span) (s : State) (rest : List ℕ) (n : Nest) → InFlow m s n
      → has_none s.brackets ≡ false → IfSome (flow_key style span s rest) (IsTiedTurn m)
  unfolding flow_key
  flow_key_tied style span s rest n f inside =
      if_some (IsTiedTurn m) (not (is_member s.next)) None _ (λ _. tt) (λ _. at (is_in Mapping s) refl)
    where
      at : (c : Bool) → is_in Mapping s ≡ c
          → IfSome (after_token (after_byte colon rest)
          (keyed style span (if c then s else opened Pair s))) (IsTiedTurn m)
      at true is = token_tied (after_byte colon rest) (keyed style span s)
          (settled_value m (emit (FlowKey style span) s) n
          (flow_emit m (FlowKey style span) s n f (rw (f.brackets, is) refl)) inside)
      at false is =
          let pair = flow_opened m Pair s n f.nested f.brackets f.blocks (rw (f.brackets, inside) refl) in
          token_tied (after_byte colon rest) (keyed style span (opened Pair s))
          (settled_value m (emit (FlowKey style span) (opened Pair s)) (opened_nest Pair n)
          (flow_emit m (FlowKey style span) (opened Pair s) (opened_nest Pair n) pair
          (rw (pair.brackets, pair_opened s) refl)) (has_some s.brackets Pair))

  lone_key_tied : (style : Style) (span : Span) (s : State) (rest : List ℕ) (n : Nest) → InFlow m s n
      → is_in Mapping s ≡ true → IfSome (lone_key style span s rest) (IsTiedTurn m)
  unfolding lone_key
  lone_key_tied style span s rest n f is =
      let keyed_in = key_in_flow style span s n f (in_mapping s is) in
      let inside = inside_of Mapping s.brackets is in
      token_tied rest (with_next next.Done (emit Null (keyed style span s)))
      (settled m next.Done (emit Null (keyed style span s)) n
      (flow_emit m Null (keyed style span s) n keyed_in (rw (f.brackets, inside) refl)) refl refl)

  key_due : (s : State) (colon_is : Bool) → (colon_is || is_key_due s) ≡ true → colon_is ≡ false
      → is_in Mapping s ≡ true
  key_due s true due none = cc
  key_due s false due none = last (is_member s.next) (is_in Mapping s) due
    where
      last : (x y : Bool) → (x && y) ≡ true → y ≡ true
      last true y both = both
      last false y both = cc

  flow_scalar_tied : (properties : Properties) (style : Style) (s : State) (text at rest : List ℕ) (n : Nest)
      → InFlow m s n → has_none s.brackets ≡ false
      → IfSome (flow_scalar properties style s text at rest) (IsTiedTurn m)
  unfolding flow_scalar
  flow_scalar_tied properties style s text at rest n f inside =
      if_some (IsTiedTurn m) (colon_follows true style (after_blanks rest) || is_key_due s) _ _
      (λ due. if_some (IsTiedTurn m) (not (is_flow_key properties style s text (after_blanks rest))) None _
      (λ _. tt) (λ _.
      if_some (IsTiedTurn m) (colon_follows true style (after_blanks rest)) _ _
      (λ _. flow_key_tied style (span_of s at rest) s (after_blanks rest) n f inside)
      (λ none. lone_key_tied style (span_of s at rest) s rest n f
      (key_due s (colon_follows true style (after_blanks rest)) due none))))
      (λ _. bind_some (IsTied m) (IsTiedTurn m) (value true properties style 0 s at rest) (after_token rest)
      (value_in_flow properties style s at rest n f inside) (λ t tied. token_tied rest t tied))

  scalar_in_flow_tied : (properties : Properties) (s : State) (text at : List ℕ) (n : Nest) → InFlow m s n
      → has_none s.brackets ≡ false → IfSome (scalar_in_flow properties s text at) (IsTiedTurn m)
  scalar_in_flow_tied properties s text at n f inside = and_then (IsTiedTurn m) (scalar true at) _ (λ found is.
      flow_scalar_tied properties found.0 s text at found.1 n f inside)

  -- a collection in brackets begins, in brackets or where a value is due
  pub open_bracket_tied : (properties : Properties) (b : ℕ) (s : State) (rest : List ℕ) (n : Nest)
      → after_events s.events m ≡ Some n → n.brackets ≡ s.brackets → n.blocks ≡ kinds s.blocks
      → (has_none n.brackets && not n.is_due) ≡ false → IfSome (open_bracket properties b s rest) (IsTiedTurn m)
  unfolding open_bracket
  open_bracket_tied properties b s rest n nested brackets blocks may =
      and_then (IsTiedTurn m) (joined s.pending properties) _ (λ both is.
      token_tied rest (with_next next.Member (opened (bracket_of b) s))
      (settled m next.Member (opened (bracket_of b) s) (opened_nest (bracket_of b) n)
      (flow_opened m (bracket_of b) s n nested brackets blocks may) refl refl))

  flow_content_tied : (properties : Properties) (s : State) (text at : List ℕ) (n : Nest) → InFlow m s n
      → has_none s.brackets ≡ false → IfSome (flow_content properties s text at) (IsTiedTurn m)
  unfolding flow_content
  flow_content_tied properties s text [] n f inside = scalar_in_flow_tied properties s text [] n f inside
  flow_content_tied properties s text (b ∷ rest) n f inside =
      if_some (IsTiedTurn m) (b == opening_square || b == opening_curly) _ _
      (λ _. if_some (IsTiedTurn m) (is_key_due s) None _ (λ _. tt)
      (λ _. open_bracket_tied properties b s rest n f.nested f.brackets f.blocks
      (rw (f.brackets, inside) refl)))
      (λ _. scalar_in_flow_tied properties s text (b ∷ rest) n f inside)

  member_tied : (s : State) (text : List ℕ) (n : Nest) → Tied m s n → has_none s.brackets ≡ false
      → IfSome (member s text) (IsTiedTurn m)
  unfolding member
  member_tied s text n t inside = if_some (IsTiedTurn m) (is_done s.next) None _ (λ _. tt) (λ _.
      and_then (IsTiedTurn m) (node_properties true s.line text) _ (λ found is.
      if_some (IsTiedTurn m) (not (is_node_over found.1.0 found.1.2)) _ _
      (λ _. flow_content_tied found.0 s text found.1.2 n (flow_of m s n t inside) inside)
      (λ _. and_then (IsTiedTurn m) (joined s.pending found.0) _ (λ both joins.
      (pending_tied m) found.1.0 found.1.1 both s (n, t)))))

  -- an entry is over
  abbrev IsFlow : State → Type 0
  IsFlow s = (n : Nest) × InFlow m s n

  abbrev IsOver : State → State → Type 0
  IsOver s t = IsFlow t × (t.brackets ≡ s.brackets)

  finished_flow : (s : State) (n : Nest) → InFlow m s n → has_none s.brackets ≡ false
      → IfSome (finished s) (IsOver s)
  unfolding finished
  finished_flow s n f inside = by_next s.next
    where
      null : IsOver s (emit Null s)
      null = ((n, (flow_emit m) Null s n f (rw (f.brackets, inside) refl)), refl)

      by_next : (to : Next) → IfSome (elim to [
        | next.Done ↦ Some s
        | next.Value ↦ Some (emit Null s)
        | next.Member ↦ if has_any s.pending && is_in Sequence s then Some (emit Null s) else None
        | next.Start ↦ None
        | next.Ended ↦ None
      ]) (IsOver s)
      by_next next.Done = ((n, f), refl)
      by_next next.Value = null
      by_next next.Member = if_some (IsOver s) (has_any s.pending && is_in Sequence s) _ None (λ _. null)
          (λ _. tt)
      by_next next.Start = tt
      by_next next.Ended = tt

  pair_closed : (s t : State) → IsOver s t → has_none s.brackets ≡ false → IsFlow (close_pair t)
  pair_closed s t ((n, f), same) inside = at (is_in Pair t)
    where
      at : (c : Bool) → IsFlow (if c then closed t else t)
      at true = (closed_nest n, (flow_closed m) t n f (rw same inside))
      at false = (n, f)

  ended_flow : (s : State) (n : Nest) → InFlow m s n → has_none s.brackets ≡ false → IfSome (ended s) IsFlow
  unfolding ended
  ended_flow s n f inside = map_some (IsOver s) IsFlow (finished s) close_pair (finished_flow s n f inside)
      (λ t over. pair_closed s t over inside)

  next_entry_tied : (s : State) (rest : List ℕ) (n : Nest) → InFlow m s n → has_none s.brackets ≡ false
      → IfSome (next_entry s rest) (IsTiedTurn m)
  unfolding next_entry
  next_entry_tied s rest n f inside = bind_some IsFlow (IsTiedTurn m) (ended s) _ (ended_flow s n f inside)
      (λ t flow. token_tied rest (with_next next.Member t) (settled m next.Member t flow.0 flow.1 refl refl))

  closing_flow : (s : State) (n : Nest) → InFlow m s n → has_none s.brackets ≡ false → IfSome (closing s) IsFlow
  unfolding closing
  closing_flow s n f inside = if_some IsFlow (is_member s.next && not (has_any s.pending)) _ _ (λ _. (n, f))
      (λ _. ended_flow s n f inside)

  close_tied : (b : Bracket) (s : State) (rest : List ℕ) (n : Nest) → InFlow m s n → has_none s.brackets ≡ false
      → IfSome (close b s rest) (IsTiedTurn m)
  unfolding close
  close_tied b s rest n f inside = bind_some IsFlow (IsTiedTurn m) (closing s) _ (closing_flow s n f inside)
      (λ t flow. if_some (IsTiedTurn m) (is_in b t) _ None
      (λ is. token_tied rest (with_next next.Done (closed t)) (settled m next.Done (closed t) (closed_nest flow.0)
      (flow_closed m t flow.0 flow.1 (inside_of b t.brackets is)) refl refl)) (λ _. tt))

  flow_token_tied : (s : State) (text : List ℕ) (n : Nest) → Tied m s n → has_none s.brackets ≡ false
      → IfSome (flow_token s text) (IsTiedTurn m)
  flow_token_tied s [] n t inside = member_tied s [] n t inside
  flow_token_tied s (b ∷ rest) n t inside =
      let f = flow_of m s n t inside in
      if_some (IsTiedTurn m) (b == comma) _ _ (λ _. next_entry_tied s rest n f inside) (λ _.
      if_some (IsTiedTurn m) (b == closing_square) _ _ (λ _. close_tied Sequence s rest n f inside) (λ _.
      if_some (IsTiedTurn m) (b == closing_curly) _ _ (λ _. close_tied Mapping s rest n f inside)
      (λ _. member_tied s (b ∷ rest) n t inside)))

  pub flow_turn_tied : (s : State) (text : List ℕ) (n : Nest) → Tied m s n → has_none s.brackets ≡ false
      → IfSome (flow_turn s text) (IsTiedTurn m)
  unfolding flow_turn
  flow_turn_tied s text n t inside =
      if_some (IsTiedTurn m) (s.fresh && column_of s text == 0 && is_document_mark text) None _ (λ _. tt)
      (λ _. flow_token_tied s text n t inside)
