-- How the values of a text's events change, and how two texts are compared event by event. `ask` relates a
-- string to its answers.
use Rattle.std.specs.Prelude.{◌≡◌, ⊤, ℕ, Bool, true, false, List, [], ◌∷◌, ◌+◌, length, slice_range, string_bytes}
use Rattle.subst_language.specs.Language.Answer.{Answer}
use Rattle.subst_yaml_reader.specs.declared.event.Event.{Event}
use Rattle.subst_yaml_reader.specs.declared.event.Event.TheVariants.{Value}
use Rattle.subst_yaml_reader.specs.declared.event.Style.{Style}
use Rattle.subst_yaml.specs.Filled.{end_of, rest_of_value, start_of, token_at, Changes, IsFilledEvent, Stays}
use Rattle.subst_yaml.specs.declared.change.Change.{Change}
use Rattle.subst_yaml.specs.declared.change.Change.TheVariants.{Kept, Replaced}
use Rattle.subst_yaml.specs.declared.compared.Positions.{Positions}

-- the code's `Change` is that of the value with the style `style` and the token `token`; `indent` is the
-- number of spaces before each line of a block scalar
abbrev pub IsChangeOf : (ask : List ℕ → Answer → Type 0) → Style → (indent : ℕ) → (token : List ℕ)
    → Change → Type 0
IsChangeOf ask style indent token Kept = Stays ask style indent token
IsChangeOf ask style indent token (Replaced value) = Changes ask style indent token (string_bytes value)

-- if the event is a value, it is unchanged; `text` is the source
abbrev pub StaysAt : (ask : List ℕ → Answer → Type 0) → (text : List ℕ) → Event → Type 0
StaysAt ask text (Value style span in_flow indent) = Stays ask style indent (token_at text span)
StaysAt ask text _ = ⊤

-- the event is a value that changes
abbrev pub ChangesAt : (ask : List ℕ → Answer → Type 0) → (text : List ℕ) → Event → Type 0
ChangesAt ask text (Value style span in_flow indent) =
    (y : List ℕ) × Changes ask style indent (token_at text span) y
ChangesAt ask text _ = ⊥

-- the result, true or false, is whether the event e is a value that changes
abbrev pub TellsChange : (ask : List ℕ → Answer → Type 0) → (text : List ℕ) → Event → Bool → Type 0
TellsChange ask text e true = ChangesAt ask text e
TellsChange ask text e false = StaysAt ask text e

-- each value of the events is unchanged
abbrev pub AllStay : (ask : List ℕ → Answer → Type 0) → (text : List ℕ) → List Event → Type 0
AllStay ask text [] = ⊤
AllStay ask text (e ∷ es) = StaysAt ask text e × AllStay ask text es

-- The event f of `output` is the event e of `source` filled in. The bytes between the positions `at` and the
-- tokens are equal in both texts. In `output`, the bytes of `rest_of_value` follow the token. The positions
-- `next` are after the token in `source`, and after these bytes in `output`.
pub record IsFilledTo (ask : List ℕ → Answer → Type 0) (source output : List ℕ) (at : Positions) (e f : Event)
    (next : Positions) : Type 0 where
  pub event : IsFilledEvent ask source output e f
  pub before : slice_range output at.output (start_of at.output f) ≡ slice_range source at.source
      (start_of at.source e)
  pub rest : slice_range output (end_of at.output f) (end_of at.output f + length (rest_of_value source e f))
      ≡ rest_of_value source e f
  pub source_end : next.source ≡ end_of at.source e
  pub output_end : next.output ≡ end_of at.output f + length (rest_of_value source e f)
