-- Texts that are filled in from a map, whatever the map is made of.
use Rattle.std.proofs.Common.{ℕ, List, [], ◌∷◌, Option, inl, inr}
use Rattle.subst_language.specs.Calls.Clauses.{AnswersText}
use Rattle.subst_language.specs.Calls.VariableMap.{look_up_of, ByLookUp}
use Rattle.subst_language.specs.Language.Answer.{Answer, Gives, Refuses}
use Rattle.subst_language.specs.Language.Several.{under}
use Rattle.subst_language.proofs.CallingLemmas.{answer_by_map}
use Rattle.subst_yaml_reader.specs.declared.event.Event.{Event}
use Rattle.subst_yaml_reader.specs.declared.event.Event.TheVariants.{Document, Item, Key, Value, Open, FlowKey, Null, Close}
use Rattle.subst_yaml_reader.specs.declared.event.Style.{Style}
use Rattle.subst_yaml.specs.Filled.{token_at, AreFilled, Changes, IsFilledEvent, IsFilledValue, Stays, fixed, itself, none}
use Rattle.subst_yaml.specs.InPlace.{IsFilledDocument}
use Rattle.subst_yaml.specs.Listed.{found_in, AreAllRefused, AreRefusalsOf, Found, RefusalAt}
use Rattle.subst_yaml.specs.Paths.{start}

-- the relation of strings to answers may be weakened
module _ (ask other : List ℕ → Answer → Type 0)
    (weaker : (x : List ℕ) (answer : Answer) → ask x answer → other x answer) where
  stays_weaker : (style : Style) (indent : ℕ) (token : List ℕ) → Stays ask style indent token
      → Stays other style indent token
  stays_weaker style indent token (fixed h) = fixed h
  stays_weaker style indent token (itself x read gives) = itself x read (weaker x (Gives x) gives)
  stays_weaker style indent token (none h) = none h

  changes_weaker : (style : Style) (indent : ℕ) (token y : List ℕ) → Changes ask style indent token y
      → Changes other style indent token y
  changes_weaker style indent token y h = record {
    string = h.string;
    marked = h.marked;
    read = h.read;
    gives = weaker h.string (Gives y) h.gives;
    other = h.other;
  }

  value_weaker : (style : Style) (indent : ℕ) (token : List ℕ) (other_style : Style) (other_indent : ℕ)
      (other_token : List ℕ) → IsFilledValue ask style indent token other_style other_indent other_token
      → IsFilledValue other style indent token other_style other_indent other_token
  value_weaker style indent token other_style other_indent other_token (inl (styles, indents, same, stays)) =
      inl (styles, indents, same, stays_weaker style indent token stays)
  value_weaker style indent token other_style other_indent other_token (inr (y, changes, read)) =
      inr (y, changes_weaker style indent token y changes, read)

  event_weaker : (source output : List ℕ) (e f : Event) → IsFilledEvent ask source output e f
      → IsFilledEvent other source output e f
  event_weaker source output (Value style span in_flow indent) f (other_style, at, other_indent, is, value) = (
    other_style,
    at,
    other_indent,
    is,
    value_weaker style indent (token_at source span) other_style other_indent (token_at output at) value,
  )
  event_weaker source output Document f h = h
  event_weaker source output (Item depth) f h = h
  event_weaker source output (Key depth style span) f h = h
  event_weaker source output (Open bracket) f h = h
  event_weaker source output (FlowKey style span) f h = h
  event_weaker source output Null f h = h
  event_weaker source output Close f h = h

  filled_weaker : (source output : List ℕ) (es fs : List Event) (i j : ℕ)
      → AreFilled ask source output i j es fs → AreFilled other source output i j es fs
  filled_weaker source output [] fs i j h = h
  filled_weaker source output (e ∷ es) fs i j (f, more, is, event, before, (rest, h)) = (
    f,
    more,
    is,
    event_weaker source output e f event,
    before,
    (rest, filled_weaker source output es more _ _ h),
  )

  pub document_weaker : (source output : List ℕ) → IsFilledDocument ask source output
      → IsFilledDocument other source output
  document_weaker source output (es, read, (fs, read_as, filled)) =
      (es, read, (fs, read_as, filled_weaker source output es fs 0 0 filled))

  refused_weaker : (list : List Found) (all : List RefusalAt) → AreRefusalsOf ask list all
      → AreRefusalsOf other list all
  refused_weaker [] all h = h
  refused_weaker (it ∷ rest) all (inl ((x, gives), h)) =
      inl ((x, weaker it.text (Gives x) gives), refused_weaker rest all h)
  refused_weaker (it ∷ rest) all (inr (refusal, more, is, r, h)) =
      inr (
        refusal,
        more,
        is,
        record {
          string = r.string;
          fault = r.fault;
          fault_is = r.fault_is;
          refused = weaker it.text (Refuses r.fault) r.refused;
          range = r.range;
        },
        refused_weaker rest more h,
      )

  pub all_weaker : (source : List ℕ) (all : List RefusalAt) → AreAllRefused ask source all
      → AreAllRefused other source all
  all_weaker source all h = let (es, read, each) = h.each in record {
    each = (es, read, refused_weaker (found_in source start es) all each);
    stand = h.stand;
  }

-- a document that is filled in from a map is filled in under the map's look-up
pub filled_by_map : {V Seen : Type 0} (items : V → List ℕ) (see : V → Seen) (look_up : List ℕ → Option Seen)
    (source output : List ℕ) → IsFilledDocument (AnswersText items see look_up) source output
    → ByLookUp items see look_up (λ look. IsFilledDocument (under look) source output)
filled_by_map items see look_up source output h = λ bytes reads.
    document_weaker (AnswersText items see look_up) (under (look_up_of bytes look_up))
    (λ s a known. answer_by_map items see look_up s a known bytes reads) source output h

-- the refused strings under a map are those under its look-up
pub refusals_by_map : {V Seen : Type 0} (items : V → List ℕ) (see : V → Seen) (look_up : List ℕ → Option Seen)
    (source : List ℕ) (all : List RefusalAt) → AreAllRefused (AnswersText items see look_up) source all
    → ByLookUp items see look_up (λ look. AreAllRefused (under look) source all)
refusals_by_map items see look_up source all h = λ bytes reads.
    all_weaker (AnswersText items see look_up) (under (look_up_of bytes look_up))
    (λ s a known. answer_by_map items see look_up s a known bytes reads) source all h
