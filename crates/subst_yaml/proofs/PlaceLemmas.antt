-- Places of ranges, and the events of values.
use Rattle.std.proofs.Common.{◌≡◌, ℕ, [], List, Some, All, Contains}
use Rattle.std.proofs.lemmas.List.Elements.{All-contains_itself, All-head, All-weaker}
use Rattle.std.specs.declared.ops.Range.{Range}
use Rattle.subst_error.specs.Range.{IsRangeIn}
use Rattle.subst_yaml_reader.specs.Reading.{read}
use Rattle.subst_yaml_reader.specs.declared.event.Event.{Event}
use Rattle.subst_yaml.specs.Places.{IsEventOf, IsPlaceIn}

-- the events of a text are events of it
pub events_of : (s : List ℕ) (es : List Event) → read s ≡ Some es → All (IsEventOf s) es
events_of s es reads =
    All-weaker (Contains es) (IsEventOf s) (λ e of_it. (es, reads, of_it)) es (All-contains_itself es)

-- a place is within the text
pub place_within : (s : List ℕ) (token range place : Range ℕ) → IsPlaceIn s token range place
    → IsRangeIn s place
place_within s token range place is = All-head (IsRangeIn s) place [] is.within
