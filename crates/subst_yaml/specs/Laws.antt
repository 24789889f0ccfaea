-- The shape of a document: its events without their positions, and without the text of its values.
use Rattle.std.specs.Prelude.{ℕ, Bool, List, [], ◌∷◌}
use Rattle.subst_yaml_reader.specs.declared.event.Bracket.{Bracket}
use Rattle.subst_yaml_reader.specs.declared.event.Event.{Event}
use Rattle.subst_yaml_reader.specs.declared.event.Event.TheVariants.{Document, Item, Key, Value, Open, FlowKey, Null, Close}
use Rattle.subst_yaml_reader.specs.declared.event.Style.{Style}
use Rattle.subst_yaml.specs.Filled.{token_at}

pub data Part : Type 0 where
  document : Part
  item : (depth : ℕ) → Part
  key : (depth : ℕ) → Style → (token : List ℕ) → Part
  value : (in_flow : Bool) → Part
  opened : Bracket → Part
  flow_key : Style → (token : List ℕ) → Part
  null : Part
  closed : Part

abbrev pub part_of : (text : List ℕ) → Event → Part
part_of text Document = document
part_of text (Item depth) = item depth
part_of text (Key depth style span) = key depth style (token_at text span)
part_of text (Value style span in_flow indent) = value in_flow
part_of text (Open bracket) = opened bracket
part_of text (FlowKey style span) = flow_key style (token_at text span)
part_of text Null = null
part_of text Close = closed

abbrev pub shape : (text : List ℕ) → List Event → List Part
shape text [] = []
shape text (e ∷ es) = part_of text e ∷ shape text es
