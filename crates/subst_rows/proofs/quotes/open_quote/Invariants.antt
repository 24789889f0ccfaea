-- The place is that of the state after the bytes so far, and inside quotes, a quote was found.
use Rattle.std.proofs.Common.{◌≡◌, ◌≤◌, ◌-◌, Some, length, take}
use Rattle.std.specs.Prelude.{slice_get}
use Rattle.csv.specs.declared.parser.State.TheVariants as st
use Rattle.subst_rows.specs.Quotes.{IsPlace, state_after, table_config}
use Rattle.subst_rows.specs.declared.quotes.Place.TheVariants.{Quoted, Closed}
use Rattle.subst_rows.proofs.quotes.open_quote.Given as goal

abbrev pub invariant-loop-found : goal.invariant-loop-found
invariant-loop-found l = record {
  within : l.at ≤ length l.text;
  placed : IsPlace l.place (state_after (table_config l.delimiter) st.StartRecord (take l.at l.text));
  quoted : l.place ≡ Quoted → slice_get l.text l.opened ≡ Some 34;
  closed : l.place ≡ Closed → slice_get l.text l.opened ≡ Some 34;
}

abbrev pub decreases-loop-found : goal.decreases-loop-found
decreases-loop-found l = length l.text - l.at
