-- The quotes of a table: the states of the machine of `csv` over a text.
use Rattle.std.specs.Prelude.{◌≡◌, ℕ, List, [], ◌∷◌, ◌==◌, Bool, true, false, ◌||◌, if◌then◌else◌}
use Rattle.csv.specs.Machine.{step}
use Rattle.csv.specs.Reading.{default_config}
use Rattle.csv.specs.declared.parser.Config.{Config}
use Rattle.csv.specs.declared.parser.State.{State}
use Rattle.csv.specs.declared.parser.State.TheVariants as st
use Rattle.subst_rows.specs.declared.quotes.Place.{Place}
use Rattle.subst_rows.specs.declared.quotes.Place.TheVariants.{Start, Plain, Quoted, Closed}

-- the settings of a table with this byte between cells
abbrev pub table_config : (delimiter : ℕ) → Config
table_config delimiter = record default_config { delimiter = delimiter }

-- the state of the machine after a text
abbrev pub state_after : Config → State → List ℕ → State
state_after config s [] = s
state_after config s (b ∷ rest) = state_after config (step config s b).0 rest

-- a table's text ends inside quotes
abbrev pub EndsInQuotes : (delimiter : ℕ) → List ℕ → Type 0
EndsInQuotes delimiter text = state_after (table_config delimiter) st.StartRecord text ≡ st.InQuoted

-- the place is that of the state, which is none of comments and escapes
abbrev pub IsPlace : Place → State → Type 0
IsPlace Start st.StartRecord = Unit {0}
IsPlace Start st.StartField = Unit {0}
IsPlace Start st.AfterCr = Unit {0}
IsPlace Plain st.InField = Unit {0}
IsPlace Quoted st.InQuoted = Unit {0}
IsPlace Closed st.AfterQuote = Unit {0}
IsPlace place s = ⊥

-- whether a byte that leads from one place to another opens a quoted cell
abbrev pub opens : Place → Place → Bool
opens Start Quoted = true
opens before after = false

-- the place outside of quotes after a byte that isn't a quote
abbrev pub place_of_last : (delimiter b : ℕ) → Place
place_of_last delimiter b = if b == delimiter || b == 13 || b == 10 then Start else Plain

-- the place after a byte that isn't a quote
abbrev pub next_place : (delimiter : ℕ) → Place → ℕ → Place
next_place delimiter Quoted b = Quoted
next_place delimiter place b = place_of_last delimiter b

-- the place after bytes that aren't quotes
abbrev pub place_after : (delimiter : ℕ) → Place → List ℕ → Place
place_after delimiter place [] = place
place_after delimiter place (b ∷ bytes) = place_after delimiter (next_place delimiter place b) bytes
