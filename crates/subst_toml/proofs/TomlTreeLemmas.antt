-- A walk over a tree, step by step.
use Rattle.std.proofs.Common.{◌≡◌, ℕ, List, [], ◌∷◌, ◌++◌, Option, Some, None, IfSome, refl, sym, ap, subst}
use Rattle.std.specs.Map.{values_of}
use Rattle.toml.specs.Data.{Items, no_items, item}
use Rattle.toml.specs.View.{view, items_view, members_view}
use Rattle.toml.specs.declared.value.Value.{Value}
use Rattle.toml.proofs.Views.{Entry}
use Rattle.subst_error.specs.Fault.{Fault}
use Rattle.subst_language.specs.Language.Answer.{Answer}
use Rattle.subst_language.specs.Language.Several.{GivesBy, RefusesFirst}
use Rattle.subst_language.proofs.Language.SeveralLemmas.{refusal_before, refusal_after}
use Rattle.subst_document.specs.Stays.{SomeChanges}
use Rattle.subst_document.proofs.StaysLemmas.{some_before, some_after}
use Rattle.subst_toml.specs.Mapped.{strings, strings_of_items, strings_of_members, AreEach}
use Rattle.subst_toml.proofs.MappedLemmas.{given}

-- the strings of a table are those of its values
strings_of_values : (es : List Entry)
    → strings_of_members (members_view es) ≡ strings_of_items (items_view (values_of es))
strings_of_values [] = refl
strings_of_values (e ∷ es) = ap (λ ss. strings (view e.1) ++ ss) (strings_of_values es)

-- if some string of a value changes, so does some string of the value around it
module _ (Becomes : List ℕ → List ℕ → Type 0) where
  item_changes : (done more : List Value) (v : Value) → SomeChanges Becomes (strings (view v))
      → SomeChanges Becomes (strings_of_items (items_view (done ++ v ∷ more)))
  item_changes [] more v h = some_before Becomes (strings (view v)) (strings_of_items (items_view more)) h
  item_changes (x ∷ done) more v h =
      some_after Becomes (strings (view x)) (strings_of_items (items_view (done ++ v ∷ more)))
      (item_changes done more v h)

  pub array_changes : (all done more : List Value) (v : Value) → all ≡ done ++ v ∷ more
      → SomeChanges Becomes (strings (view v)) → SomeChanges Becomes (strings_of_items (items_view all))
  array_changes all done more v is h =
      subst (λ vs. SomeChanges Becomes (strings_of_items (items_view vs))) (sym is)
      (item_changes done more v h)

  pub table_changes : (es : List Entry) (done more : List Value) (v : Value)
      → values_of es ≡ done ++ v ∷ more → SomeChanges Becomes (strings (view v))
      → SomeChanges Becomes (strings_of_members (members_view es))
  table_changes es done more v is h =
      subst (SomeChanges Becomes) (sym (strings_of_values es)) (array_changes (values_of es) done more v is h)

-- `ask` relates a string to its answers
module _ (ask : List ℕ → Answer → Type 0) where
  -- if an item is the first to be refused, its fault is that of the array
  item_refused : (done more : List Value) (v : Value) (filled : Items) (f : Fault)
      → AreEach (GivesBy ask) (items_view done) filled → RefusesFirst ask (strings (view v)) f
      → RefusesFirst ask (strings_of_items (items_view (done ++ v ∷ more))) f
  item_refused [] more v filled f h k =
      refusal_before ask (strings (view v)) (strings_of_items (items_view more)) f k
  item_refused (x ∷ done) more v no_items f h k = absurd h
  item_refused (x ∷ done) more v (item e es) f h k =
      refusal_after ask (strings (view x)) (strings_of_items (items_view (done ++ v ∷ more))) f
      (given ask (view x) e h.0) (item_refused done more v es f h.1 k)

  -- if an item is refused after items that are filled in, the array is refused
  pub array_refused : (all done more : List Value) (v : Value) (filled : Items)
      (fault : Option Fault) → all ≡ done ++ v ∷ more → AreEach (GivesBy ask) (items_view done) filled
      → IfSome fault (RefusesFirst ask (strings (view v)))
      → IfSome fault (RefusesFirst ask (strings_of_items (items_view all)))
  array_refused all done more v filled None is h k = tt
  array_refused all done more v filled (Some f) is h k =
      subst (λ vs. RefusesFirst ask (strings_of_items (items_view vs)) f) (sym is)
      (item_refused done more v filled f h k)

  -- if a value is refused after values that are filled in, the table is refused
  pub table_refused : (es : List Entry) (done more : List Value) (v : Value) (filled : Items)
      (fault : Option Fault) → values_of es ≡ done ++ v ∷ more
      → AreEach (GivesBy ask) (items_view done) filled
      → IfSome fault (RefusesFirst ask (strings (view v)))
      → IfSome fault (RefusesFirst ask (strings_of_members (members_view es)))
  table_refused es done more v filled fault is h k =
      subst (λ ss. IfSome fault (RefusesFirst ask ss)) (sym (strings_of_values es))
      (array_refused (values_of es) done more v filled fault is h k)
