-- A walk over a tree, step by step.
use Rattle.std.proofs.Common.{◌≡◌, ℕ, List, [], ◌∷◌, ◌++◌, Option, Some, None, IfSome, String, Global, string_bytes, refl, sym, ap, subst, rules}
use Rattle.std.specs.Map.{values_of}
use Rattle.serde_json.specs.Data.{string, Items, no_items, item}
use Rattle.serde_json.specs.View.{view, items_view, members_view}
use Rattle.serde_json.specs.declared.value.Value.{Value, the_lemmas}
use Rattle.serde_json.specs.declared.value.Value as json
use Rattle.serde_json.proofs.Views.{Entry}
use Rattle.subst_error.specs.Fault.{Fault}
use Rattle.subst_language.specs.Language.Answer.{Answer}
use Rattle.subst_language.specs.Language.Several.{GivesBy, RefusesFirst}
use Rattle.subst_language.proofs.Language.SeveralLemmas.{refusal_before, refusal_after}
use Rattle.subst_json.specs.Mapped.{strings, strings_of_items, strings_of_members, AreEach}
use Rattle.subst_json.proofs.MappedLemmas.{given}

pub view-String : (s : String Global) → view (json.String s) ≡ string (string_bytes s)
view-String s = search (rules, the_lemmas)

-- the strings of an object are those of its values
strings_of_values : (es : List Entry)
    → strings_of_members (members_view es) ≡ strings_of_items (items_view (values_of es))
strings_of_values [] = refl
strings_of_values (e ∷ es) = ap (λ ss. strings (view e.1) ++ ss) (strings_of_values es)

-- `ask` relates a string to its answers
module _ (ask : List ℕ → Answer → Type 0) where
  -- if an item is the first to be refused, its fault is that of the array
  item_refused : (done more : List Value) (v : Value) (filled : Items) (f : Fault)
      → AreEach (GivesBy ask) (items_view done) filled → RefusesFirst ask (strings (view v)) f
      → RefusesFirst ask (strings_of_items (items_view (done ++ v ∷ more))) f
  item_refused [] more v filled f h k =
      refusal_before ask (strings (view v)) (strings_of_items (items_view more)) f k
  item_refused (x ∷ done) more v no_items f h k = absurd h
  item_refused (x ∷ done) more v (item e es) f h k =
      refusal_after ask (strings (view x)) (strings_of_items (items_view (done ++ v ∷ more))) f
      (given ask (view x) e h.0) (item_refused done more v es f h.1 k)

  -- if an item is refused after items that are filled in, the array is refused
  pub array_refused : (all done more : List Value) (v : Value) (filled : Items) (fault : Option Fault)
      → all ≡ done ++ v ∷ more → AreEach (GivesBy ask) (items_view done) filled
      → IfSome fault (RefusesFirst ask (strings (view v)))
      → IfSome fault (RefusesFirst ask (strings_of_items (items_view all)))
  array_refused all done more v filled None is h k = tt
  array_refused all done more v filled (Some f) is h k =
      subst (λ vs. RefusesFirst ask (strings_of_items (items_view vs)) f) (sym is)
      (item_refused done more v filled f h k)

  -- if a value is refused after values that are filled in, the object is refused
  pub object_refused : (es : List Entry) (done more : List Value) (v : Value) (filled : Items)
      (fault : Option Fault) → values_of es ≡ done ++ v ∷ more
      → AreEach (GivesBy ask) (items_view done) filled → IfSome fault (RefusesFirst ask (strings (view v)))
      → IfSome fault (RefusesFirst ask (strings_of_members (members_view es)))
  object_refused es done more v filled fault is h k =
      subst (λ ss. IfSome fault (RefusesFirst ask ss)) (sym (strings_of_values es))
      (array_refused (values_of es) done more v filled fault is h k)
