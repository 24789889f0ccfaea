-- Lemmas on lists of entries, and on the values of names by them.
use Rattle.std.proofs.Common.{◌≡◌, ◌<◌, ◌+◌, ℕ, Bool, true, false, List, [], ◌∷◌, ◌++◌, ◌||◌, ◌&&◌, not, if◌then◌else◌, filter, get_or, length, map, reverse, take, Bor, Option, Some, None, is_some, is_none, refl, sym, subst, ap, ◌∙◌, arith}
use Rattle.std.proofs.lemmas.Grind.{common_steps, reverse_onto}
use Rattle.std.proofs.lemmas.List.{map-append, map_push, take_more}
use Rattle.std.proofs.lemmas.List.Elements.{filter_map-append}
use Rattle.std.specs.List.{cons_option}
use Rattle.std.specs.Option.{option_flatten, option_map, option_map_or, option_or, option_to_list}
use Rattle.std.specs.Str.{bytes_eq}
use Rattle.subst.specs.Grammar.{grammar}
use Rattle.subst_expander.specs.Fill.{all_of, grammar_in, grammar_of, has_in, has_of, or_operated}
use Rattle.subst_filter_lib.specs.Arguments.{value_under}
use Rattle.subst_expander.specs.Layers.{AreVariablesOf, Entry, IsKnown, has_unreadable, entry_in, environment_of, escaped, entry_value, is_unreadable, look_up_in}
use Rattle.subst_expander.specs.declared.layers.Variables.{Variables}
use Rattle.subst_expander.specs.declared.kinds.Choice.{Choice}
use Rattle.subst_expander.specs.declared.kinds.Choice.TheVariants.{All, Known, Only}
use Rattle.subst_expander.specs.declared.kinds.Chosen.{Chosen}
use Rattle.subst_expander.specs.declared.kinds.Escape.TheVariants.{Nothing}

-- a function applied to the first `at + 1` elements
pub map_take : {X Y : Type 0} (f : X → Y) (xs : List X) (at : ℕ) (x : X) → at < length xs
    → x ≡ get_or xs at x → map f (take (at + 1) xs) ≡ map f (take at xs) ++ f x ∷ []
map_take f xs at x below is =
    let longer = subst (λ y. take (at + 1) xs ≡ take at xs ++ y ∷ []) (sym is) (take_more xs at x below) in
    rw longer (map_push f (take at xs) x)

-- the value of a name once an entry is added: that of the entry if none before has the name
entry_value-append : (entries : List Entry) (entry : Entry) (name : List ℕ)
    → entry_value (entries ++ entry ∷ []) name
    ≡ option_or (entry_value entries name) (if bytes_eq name entry.name then Some entry.value else None)
entry_value-append [] entry name = grind (arith, common_steps)
entry_value-append (first ∷ entries) entry name =
    grind (arith, common_steps, entry_value-append entries entry name)

-- the value that is UTF-8, once a value is added
adds_value : (given : Option (Option (List ℕ))) (same : Bool) (value : Option (List ℕ))
    → option_flatten (option_or given (if same then Some value else None))
    ≡ option_or (option_flatten given)
    (if same && not (option_map_or is_none given false) then value else None)
adds_value None true value = refl
adds_value None false value = refl
adds_value (Some None) true value = refl
adds_value (Some None) false value = refl
adds_value (Some (Some x)) same value = refl

-- whether the value isn't UTF-8, once a value is added
adds_unreadable : (given : Option (Option (List ℕ))) (same : Bool) (value : Option (List ℕ))
    → option_map_or is_none (option_or given (if same then Some value else None)) false
    ≡ (option_map_or is_none given false
    || (same && (not (is_some (option_flatten given)) && is_none value)))
adds_unreadable None true value = refl
adds_unreadable None false value = refl
adds_unreadable (Some None) same value = refl
adds_unreadable (Some (Some x)) true value = refl
adds_unreadable (Some (Some x)) false value = refl

-- the value of a name, if it is UTF-8, once an entry is added
pub look_up_in-append : (entries : List Entry) (entry : Entry) (name : List ℕ)
    → look_up_in (entries ++ entry ∷ []) name ≡ option_or (look_up_in entries name)
    (if bytes_eq name entry.name && not (is_unreadable entries name) then entry.value else None)
look_up_in-append entries entry name =
    ap option_flatten (entry_value-append entries entry name)
    ∙ adds_value (entry_value entries name) (bytes_eq name entry.name) entry.value

-- whether the value of a name isn't UTF-8, once an entry is added
pub is_unreadable-append : (entries : List Entry) (entry : Entry) (name : List ℕ)
    → is_unreadable (entries ++ entry ∷ []) name
    ≡ (is_unreadable entries name || (bytes_eq name entry.name
    && (not (is_some (look_up_in entries name)) && is_none entry.value)))
is_unreadable-append entries entry name =
    ap (λ given. option_map_or is_none given false) (entry_value-append entries entry name)
    ∙ adds_unreadable (entry_value entries name) (bytes_eq name entry.name) entry.value

-- a function applied to a reversed list
map_reverse : {X Y : Type 0} (f : X → Y) (xs : List X) → map f (reverse xs) ≡ reverse (map f xs)
map_reverse f [] = refl
map_reverse f (x ∷ xs) =
    rw (reverse_onto xs x [], reverse_onto (map f xs) (f x) [], map_push f (reverse xs) x, map_reverse f xs)
    refl

-- a function applied to three lists in the order of the variables above .env files
pub ordered_above : {X Y : Type 0} (f : X → Y) (set lines environment : List X)
    → map f (reverse (lines ++ set) ++ environment) ≡ reverse (map f lines ++ map f set) ++ map f environment
ordered_above f set lines environment =
    map-append f (reverse (lines ++ set)) environment
    ∙ ap (λ front. front ++ map f environment)
    (map_reverse f (lines ++ set) ∙ ap reverse (map-append f lines set))

-- a function applied to three lists in the order of a run's variables
pub ordered : {X Y : Type 0} (f : X → Y) (above dotenv defaults : List X)
    → map f (above ++ reverse dotenv ++ reverse defaults)
    ≡ map f above ++ reverse (map f dotenv) ++ reverse (map f defaults)
ordered f above dotenv defaults =
    map-append f (above ++ reverse dotenv) (reverse defaults)
    ∙ ap (λ front. front ++ map f (reverse defaults)) (map-append f above (reverse dotenv))
    ∙ ap (λ more. map f above ++ more ++ map f (reverse defaults)) (map_reverse f dotenv)
    ∙ ap (λ last. map f above ++ reverse (map f dotenv) ++ last) (map_reverse f defaults)

-- a filter on the results of a function
pub filter_map : {X Y : Type 0} (f : X → Y) (test : Y → Bool) (xs : List X)
    → map f (filter (λ x. test (f x)) xs) ≡ filter test (map f xs)
filter_map f test [] = refl
filter_map f test (x ∷ xs) = of (test (f x)) refl (filter_map f test xs)
  where
    of : (passes : Bool) → test (f x) ≡ passes
        → map f (filter (λ y. test (f y)) xs) ≡ filter test (map f xs)
        → map f (filter (λ y. test (f y)) (x ∷ xs)) ≡ filter test (map f (x ∷ xs))
    of true is rest = rw is (ap (λ ys. f x ∷ ys) rest)
    of false is rest = rw is rest

-- an entry that isn't escaped is unchanged
same_entry : (entry : Entry) → escaped Nothing entry ≡ entry
same_entry entry = of entry.value refl
  where
    of : (value : Option (List ℕ)) → entry.value ≡ value → escaped Nothing entry ≡ entry
    of None is = rw is refl
    of (Some x) is = rw is refl

-- entries that aren't escaped are unchanged
pub not_escaped : (entries : List Entry) → map (escaped Nothing) entries ≡ entries
not_escaped [] = refl
not_escaped (entry ∷ entries) = rw (same_entry entry, not_escaped entries) refl

-- an optional element as a list
one_more : {X : Type 0} (o : Option X) → cons_option o [] ≡ option_to_list o
one_more None = refl
one_more (Some x) = refl

-- the entries of the first `at + 1` entries of an environment
pub environment_take : {X : Type 0} (bytes_of : X → List ℕ) (raw : List X) (at : ℕ) (x : X) → at < length raw
    → x ≡ get_or raw at x → environment_of (map bytes_of (take (at + 1) raw))
    ≡ environment_of (map bytes_of (take at raw)) ++ option_to_list (entry_in (bytes_of x))
environment_take bytes_of raw at x below is =
    ap environment_of (map_take bytes_of raw at x below is)
    ∙ filter_map-append entry_in (map bytes_of (take at raw)) (bytes_of x ∷ [])
    ∙ ap (λ more. environment_of (map bytes_of (take at raw)) ++ more) (one_more (entry_in (bytes_of x)))

-- there is no value exactly if there is none of a function's result
pub no_value : {X Y : Type 0} (f : X → Y) (o : Option X) → is_none o ≡ is_none (option_map f o)
no_value f None = refl
no_value f (Some x) = refl

-- the names chosen by the variables are those chosen by their entries
same_names : (b : Bor Variables) (entries : List Entry) (choice : Choice) → AreVariablesOf b.now entries
    → has_in choice (Some b) ≡ has_of choice entries
same_names b entries All are = refl
same_names b entries (Only names starts) are = refl
same_names b entries Known are =
    let names : IsKnown (value_under b.now.values) (has_unreadable b.now)
    ≡ IsKnown (look_up_in entries) (is_unreadable entries) = rw (are.values, are.unreadable) refl in
    ap or_operated names

pub same_grammar : (b : Bor Variables) (entries : List Entry) (chosen : Chosen) → AreVariablesOf b.now entries
    → grammar_in chosen (Some b) ≡ grammar_of chosen entries
same_grammar b entries chosen are =
    ap (grammar chosen.forms (all_of chosen.names)) (same_names b entries chosen.names are)
