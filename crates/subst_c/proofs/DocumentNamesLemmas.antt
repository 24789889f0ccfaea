-- Lemmas on the names of documents, and on values by number.
use Rattle.std.proofs.Common.{◌≡◌, ℕ, zero, suc, ◌+◌, ◌<◌, ◌⊎◌, Bool, true, false, Option, Some, None, List, [], ◌∷◌, ◌++◌, fold, length, map, take, drop, get_or, inl, inr, if◌then◌else◌, refl, sym, ap, ◌∙◌, subst, arith, append_assoc, append-nil, Result, String}
use denote.Ref.{Bor}
use Rattle.std.specs.BTreeMap.{BTreeMap}
use Rattle.std.specs.Prelude.{◌≢◌, is_some, slice_get}
use Rattle.std.specs.Global.{Global}
use Rattle.std.specs.List.{AllByRecursion, concat}
use Rattle.std.specs.Option.{option_and_then, option_or}
use Rattle.std.specs.Str.{bytes_eq, is_utf8}
use Rattle.std.specs.declared.ops.Range.{Range}
use Rattle.std.specs.Cmp.Lexicographic.{bytes_decides, nat_list_eq_equiv}
use Rattle.std.proofs.Math.Path.{fun_ext}
use Rattle.std.proofs.lemmas.List.{get_or-map, length-map, length-take-le, map-append, take_more, take-append-drop}
use Rattle.std.proofs.lemmas.List.Folds.{list_all-append}
use Rattle.std.proofs.lemmas.List.Sums.{fold-append}
use Rattle.std.proofs.lemmas.Option.{slice_get-get_or}
use Rattle.std.proofs.lemmas.Simd.{map-map}
use Rattle.subst_indexed.proofs.DistinctLemmas.{distinct_push, name_at}
use Rattle.subst_indexed.proofs.NumberingLemmas.{number_kept, number_of-append}
use Rattle.subst_indexed.specs.Expansion.{Values}
use Rattle.subst_indexed.specs.Names.{AreDistinct}
use Rattle.subst_indexed.specs.Numbering.{look_of, number_of}
use Rattle.subst_error.specs.ErrorFault.{error_fault}
use Rattle.subst_error.specs.Fault.{Fault, InvalidEscapeSequence, MissingClosingBrace, MissingVariableName, NoSuchVariable, UnexpectedCharacter}
use Rattle.subst_language.proofs.Language.MissingLemmas.{missing_lacked}
use Rattle.subst_language.proofs.Language.UnsettledLemmas.{fault_is_known}
use Rattle.subst_language.proofs.Language.VariablesLemmas.{missing_first}
use Rattle.subst_language.specs.Language.Answer.{Answers, Refuses}
use Rattle.subst_language.specs.Language.Sentence.{ByTree, IsSentence, Spells}
use Rattle.subst_language.specs.Language.Several.{under}
use Rattle.subst_document.specs.Paths.{AreRefusals, Located, PathStep, Refusal}
use Rattle.subst_language.specs.Language.Tree.{Tree}
use Rattle.subst_language.specs.Language.Variables.{name_of, variables_of}
use Rattle.subst_document.specs.Edits.{text_at}
use Rattle.subst_document.specs.declared.edits.StringAt.{StringAt}
use Rattle.subst_toml.specs.Filled.{AreRefusalsIn, RefusalIn, Spelled, spelled_of}
use Rattle.subst_toml.specs.Listed.{IsListing}
use Rattle.subst_yaml.specs.Listed as yaml
use Rattle.subst_toml.specs.Outcome.{ReadsAsTree}
use Rattle.subst_c.specs.Documents.{Format, Json, Toml, Yaml, IsFirst, IsReported, IsResultOf, Refused}
use Rattle.subst_c.specs.DocumentNames.{HasNames, KnowsNames, UseNames, WritesNames, distinct, every_name, with_name}
use Rattle.subst_c.specs.Each.{ends_from}
use Rattle.subst_c.specs.Fault.{SetsFault, fault_number}
use Rattle.subst_c.specs.Index.{indexed_value}
use Rattle.subst_c.specs.Pairs.{pair_value}
use Rattle.subst_c.specs.Text.{have_texts}
use Rattle.subst_c.specs.declared.document.Unfilled.{Unfilled}
use Rattle.subst_c.specs.declared.fault.FaultRecord.{FaultRecord}
use Rattle.subst_c.specs.declared.fault.TheConstants.{NO_SUCH_VARIABLE}
use Rattle.subst_c.specs.declared.outcome.TheConstants.{DONE, ROOM_TOO_SMALL}
use Rattle.subst_c.specs.declared.pairs.Pair.{Pair}
use Rattle.subst_c.proofs.EachLemmas.{concat-more, ends_from-append, length-ends_from}
use Rattle.subst_c.proofs.IndexLemmas.{pair_value-append}

-- the first items of a list, with the one at an index
pub map_more : {A B : Type 0} (f : A → B) (xs : List A) (i : ℕ) (x : A) → i < length xs → x ≡ get_or xs i x
    → map f (take (i + 1) xs) ≡ map f (take i xs) ++ f x ∷ []
map_more f xs i x below here =
    ap (map f) (take_more xs i x below) ∙ map-append f (take i xs) (get_or xs i x ∷ [])
    ∙ ap (λ y. map f (take i xs) ++ f y ∷ []) (sym here)

-- the names of strings, and of one more
pub uses_more : (strings used : List (List ℕ)) (x : List ℕ) (t : Tree) → UseNames strings used → Spells t x
    → UseNames (strings ++ x ∷ []) (used ++ map name_of (variables_of 0 t))
uses_more [] used x t none spells =
    let names = map name_of (variables_of 0 t) in
    (t, [], spells, ap (λ u. u ++ names) none ∙ sym (append-nil names), refl)
uses_more (y ∷ strings) used x t (u, more, spelled, is, rest) spells =
    let names = map name_of (variables_of 0 t) in (
      u,
      more ++ names,
      spelled,
      ap (λ l. l ++ names) is ∙ append_assoc (map name_of (variables_of 0 u)) more names,
      uses_more strings more x t rest spells,
    )

-- the names of a loop's strings, with those of the string at its index
pub names_more : {A : Type 0} (f : A → List ℕ) (xs : List A) (i : ℕ) (x : A) (t : Tree)
    (names new : List (List ℕ)) → i < length xs → x ≡ get_or xs i x
    → ((used : List (List ℕ)) × UseNames (map f (take i xs)) used × (names ≡ distinct used)) → Spells t (f x)
    → new ≡ fold with_name names (map name_of (variables_of 0 t))
    → (used : List (List ℕ)) × UseNames (map f (take (i + 1) xs)) used × (new ≡ distinct used)
names_more f xs i x t names new below here (used, uses, are) spells is =
    let added = map name_of (variables_of 0 t) in (
      used ++ added,
      subst (λ l. UseNames l (used ++ added)) (sym (map_more f xs i x below here))
          (uses_more (map f (take i xs)) used (f x) t uses spells),
      is ∙ ap (λ n. fold with_name n added) are ∙ sym (fold-append with_name [] used added),
    )

-- the same by a template for the string
pub template_more : {A : Type 0} (f : A → List ℕ) (xs : List A) (i : ℕ) (x : A) (names new : List (List ℕ))
    (shown template : List ℕ) → i < length xs → x ≡ get_or xs i x
    → ((used : List (List ℕ)) × UseNames (map f (take i xs)) used × (names ≡ distinct used)) → shown ≡ f x
    → IsSentence shown × (template ≡ shown)
    → ByTree template (λ t. new ≡ fold with_name names (map name_of (variables_of 0 t)))
    → (used : List (List ℕ)) × UseNames (map f (take (i + 1) xs)) used × (new ≡ distinct used)
template_more f xs i x names new shown template below here so_far is ((t, spells), same) by_tree =
    names_more f xs i x t names new below here so_far (subst (Spells t) is spells)
    (by_tree t (subst (Spells t) (sym same) spells))

-- distinct names stay so with one more
distinct_with : (names : List (List ℕ)) (name : List ℕ) → AreDistinct names → AreDistinct (with_name names name)
distinct_with names name are = of (number_of names name) refl
  where
    of : (found : Option ℕ) → number_of names name ≡ found
        → AreDistinct (if is_some found then names else names ++ name ∷ [])
    of (Some n) is = are
    of None is = distinct_push names name are is

distinct_fold : (names used : List (List ℕ)) → AreDistinct names → AreDistinct (fold with_name names used)
distinct_fold names [] are = are
distinct_fold names (name ∷ used) are = distinct_fold (with_name names name) used (distinct_with names name are)

-- the names of a document are distinct
pub are_distinct : (names used : List (List ℕ)) → names ≡ distinct used → AreDistinct names
are_distinct names used is = subst AreDistinct (sym is) (distinct_fold [] used (λ index name h. absurd cc))

-- no item is at an index past the end
past_take : (xs : List (List ℕ)) (i : ℕ) → slice_get (take i xs) i ≡ None
past_take [] zero = refl
past_take [] (suc i) = refl
past_take (x ∷ xs) zero = refl
past_take (x ∷ xs) (suc i) = past_take xs i

-- a name at an index isn't among the names before it
not_before : (names : List (List ℕ)) (i : ℕ) (name : List ℕ) → AreDistinct names
    → slice_get names i ≡ Some name → number_of (take i names) name ≡ None
not_before names i name are here = of (number_of (take i names) name) refl
  where
    of : (found : Option ℕ) → number_of (take i names) name ≡ found → found ≡ None
    of None is = refl
    of (Some k) is =
        let kept : number_of names name ≡ Some k =
        subst (λ all. number_of all name ≡ Some k) (take-append-drop i names)
        (number_kept (take i names) (drop i names) name k is) in
        let own : number_of names name ≡ Some i = are i name here in
        let same : k ≡ i = cc in
        let at : slice_get (take i names) i ≡ Some name =
        subst (λ n. slice_get (take i names) n ≡ Some name) same (name_at (take i names) name k is) in
        let none : slice_get (take i names) i ≡ None = past_take names i in
        absurd cc

or_none : (o : Option (List ℕ)) → o ≡ option_or o None
or_none (Some x) = refl
or_none None = refl

-- the value of a name, by the number among names and one more
look_more : (names : List (List ℕ)) (name : List ℕ) (values : Values) (other : List ℕ)
    → number_of names name ≡ None
    → look_of (names ++ name ∷ []) values other
    ≡ option_or (look_of names values other) (if bytes_eq other name then values (length names) else None)
look_more names name values other new = of (number_of names other) refl (bytes_eq other name) refl
  where
    turned : bytes_eq other name ≡ bytes_eq name other
    turned = nat_list_eq_equiv.symm other name

    of : (found : Option ℕ) → number_of names other ≡ found → (b : Bool) → bytes_eq other name ≡ b
        → look_of (names ++ name ∷ []) values other
        ≡ option_or (look_of names values other) (if bytes_eq other name then values (length names) else None)
    of (Some k) is true same =
        let equal : other ≡ name = (bytes_decides other name).0 same in
        let found : number_of names name ≡ Some k = subst (λ n. number_of names n ≡ Some k) equal is in
        absurd cc
    of (Some k) is false differ =
        rw (number_kept names (name ∷ []) other k is, is, differ) (or_none (values k))
    of None is true same =
        let here : bytes_eq name other ≡ true = sym turned ∙ same in
        let last : length names + 0 ≡ length names = omega arith in
        rw (number_of-append names (name ∷ []) other is, is, same, here) (ap values last)
    of None is false differ =
        let here : bytes_eq name other ≡ false = sym turned ∙ differ in
        rw (number_of-append names (name ∷ []) other is, is, differ, here) refl

-- any number stands for a value here
abbrev any_value : Values
any_value n = Some []

some_value : (o : Option ℕ) → is_some (option_and_then any_value o) ≡ is_some o
some_value (Some n) = refl
some_value None = refl

-- a name that the map doesn't have is a new one
not_known : (o : Option ℕ) → false ≡ is_some o → o ≡ None
not_known (Some n) e = absurd cc
not_known None e = refl

found_alike : (a : Option (List ℕ)) (o : Option ℕ) (value : List ℕ) (b : Bool) → is_some a ≡ is_some o
    → is_some (option_or a (if b then Some value else None))
    ≡ is_some (option_or (option_and_then any_value o) (if b then Some [] else None))
found_alike (Some x) (Some n) value b e = refl
found_alike (Some x) None value b e = absurd cc
found_alike None (Some n) value b e = absurd cc
found_alike None None value true e = refl
found_alike None None value false e = refl

-- a map with one more name
pub knows_more : (known new : BTreeMap (Bor (List ℕ)) (Bor (List ℕ))) (names : List (List ℕ))
    (name value : List ℕ) → KnowsNames known names → false ≡ is_some (indexed_value known name)
    → ((other : List ℕ) → indexed_value new other
    ≡ option_or (indexed_value known other) (if bytes_eq other name then Some value else None))
    → KnowsNames new (names ++ name ∷ [])
knows_more known new names name value knows absent adds = λ other.
    ap is_some (adds other)
    ∙ found_alike (indexed_value known other) (number_of names other) value (bytes_eq other name) (knows other)
    ∙ sym (ap is_some
    (look_more names name any_value other (not_known (number_of names name) (absent ∙ knows name))))
    ∙ some_value (number_of (names ++ name ∷ []) other)

-- the values of names before an index, and that of the one at the index
pub looks_more : {A : Type 0} (f : A → List ℕ) (xs : List A) (i : ℕ) (x : A) (values : Values) (other : List ℕ)
    → AreDistinct (map f xs) → i < length xs → x ≡ get_or xs i x
    → look_of (take (i + 1) (map f xs)) values other
    ≡ option_or (look_of (take i (map f xs)) values other) (if bytes_eq other (f x) then values i else None)
looks_more f xs i x values other are below here =
    let names = map f xs in
    let within : i < length names = omega (arith, length-map xs f) in
    let at : get_or names i (f x) ≡ f x = get_or-map f xs i x (f x) below ∙ ap f (sym here) in
    let front : take (i + 1) names ≡ take i names ++ f x ∷ [] =
    take_more names i (f x) within ∙ ap (λ y. take i names ++ y ∷ []) at in
    let found : slice_get names i ≡ Some (f x) =
    slice_get-get_or names i (f x) within ∙ ap (λ y. Some y) at in
    ap (λ l. look_of l values other) front
    ∙ look_more (take i names) (f x) values other (not_before names i (f x) are found)
    ∙ ap (λ n. option_or (look_of (take i names) values other) (if bytes_eq other (f x) then values n else None))
    (length-take-le i names (omega arith))

-- the pairs of the names before an index, and the pair of the one at the index
pub pair_more : {A : Type 0} (f : A → List ℕ) (xs : List A) (i : ℕ) (x : A) (values : Values)
    (pairs new : List Pair) (pair : Pair) → AreDistinct (map f xs) → i < length xs → x ≡ get_or xs i x
    → new ≡ pairs ++ pair ∷ [] → pair.name.now ≡ f x → Some pair.value.now ≡ values i
    → ((name : List ℕ) → pair_value pairs name ≡ look_of (take i (map f xs)) values name)
    → (name : List ℕ) → pair_value new name ≡ look_of (take (i + 1) (map f xs)) values name
pair_more f xs i x values pairs new pair are below here is named has so_far name =
    ap (λ l. pair_value l name) is ∙ pair_value-append pairs pair name
    ∙ ap (λ o. option_or o (if bytes_eq name pair.name.now then Some pair.value.now else None)) (so_far name)
    ∙ ap (λ n. option_or (look_of (take i (map f xs)) values name)
    (if bytes_eq name n then Some pair.value.now else None)) named
    ∙ ap (λ v. option_or (look_of (take i (map f xs)) values name) (if bytes_eq name (f x) then v else None)) has
    ∙ sym (looks_more f xs i x values name are below here)

-- the name at the index has no pair
pub no_pair_more : {A : Type 0} (f : A → List ℕ) (xs : List A) (i : ℕ) (x : A) (values : Values)
    (pairs : List Pair) → AreDistinct (map f xs) → i < length xs → x ≡ get_or xs i x → None ≡ values i
    → ((name : List ℕ) → pair_value pairs name ≡ look_of (take i (map f xs)) values name)
    → (name : List ℕ) → pair_value pairs name ≡ look_of (take (i + 1) (map f xs)) values name
no_pair_more f xs i x values pairs are below here has so_far name =
    so_far name ∙ or_none (look_of (take i (map f xs)) values name)
    ∙ ap (option_or (look_of (take i (map f xs)) values name)) (none (bytes_eq name (f x)))
    ∙ ap (λ v. option_or (look_of (take i (map f xs)) values name) (if bytes_eq name (f x) then v else None)) has
    ∙ sym (looks_more f xs i x values name are below here)
  where
    none : (b : Bool) → ◌≡◌ {A = Option (List ℕ)} None (if b then None else None)
    none true = refl
    none false = refl

-- pairs with values that are UTF-8, and one more
pub texts_more : (pairs new : List Pair) (pair : Pair) → new ≡ pairs ++ pair ∷ []
    → is_utf8 pair.value.now ≡ true → have_texts pairs ≡ true → have_texts new ≡ true
texts_more pairs new pair is last are =
    ap have_texts is ∙ list_all-append (λ (p : Pair). is_utf8 p.value.now) pairs (pair ∷ [])
    ∙ rw (are, last) refl

-- items of a loop's names, one after the other, with the one at its index
pub joined_more : {A : Type 0} (f : A → List ℕ) (xs : List A) (i : ℕ) (x : A)
    (bytes ends new_bytes new_ends : List ℕ) → i < length xs → x ≡ get_or xs i x
    → (bytes ≡ concat (map f (take i xs))) × (ends ≡ ends_from 0 (map f (take i xs)))
    → new_bytes ≡ bytes ++ f x → new_ends ≡ ends ++ length new_bytes ∷ []
    → (new_bytes ≡ concat (map f (take (i + 1) xs))) × (new_ends ≡ ends_from 0 (map f (take (i + 1) xs)))
joined_more f xs i x bytes ends new_bytes new_ends below here (joined, ended) added last =
    let all = map f (take i xs) in
    let bytes_are : new_bytes ≡ concat all ++ f x = added ∙ ap (λ b. b ++ f x) joined in
    let end : length new_bytes ≡ 0 + length (concat all ++ f x) = omega (arith, ap length bytes_are) in
    let more = map_more f xs i x below here in (
      bytes_are ∙ sym (concat-more all (f x)) ∙ ap concat (sym more),
      last ∙ ap (λ e. e ++ length new_bytes ∷ []) ended ∙ ap (λ m. ends_from 0 all ++ m ∷ []) end
          ∙ sym (ends_from-append 0 all (f x)) ∙ ap (ends_from 0) (sym more),
    )

-- names that are written to the buffer and to `ends`
pub names_written : (names : List (List ℕ)) (bytes bytes_end : List ℕ)
    (result needed_old needed count_old count : ℕ) (old new ends_old ends : List ℕ)
    → bytes ≡ concat names → bytes_end ≡ ends_from 0 names → needed ≡ length bytes → count ≡ length names
    → (result ≡ DONE → (new ≡ bytes ++ drop (length bytes) old)
    × (ends ≡ bytes_end ++ drop (length bytes_end) ends_old))
    → (result ≡ ROOM_TOO_SMALL → (length old < length bytes) ⊎ (length ends_old < length bytes_end))
    → (result ≢ DONE → (new ≡ old) × (ends ≡ ends_old)) → (result ≢ DONE → result ≡ ROOM_TOO_SMALL)
    → WritesNames (λ list. list ≡ names) result needed_old needed count_old count old new ends_old ends
names_written names bytes bytes_end result needed_old needed count_old count old new ends_old ends
    joined ended all counted done small kept others = record {
      done = λ is. (
        names,
        refl,
        record {
          items = bytes;
          wanted = joined;
          counted = all;
          put = (done is).0 ∙ ap (λ n. bytes ++ drop n old) (sym all);
        },
        record {
          items = bytes_end;
          wanted = ended;
          counted = count_is;
          put = (done is).1 ∙ ap (λ n. bytes_end ++ drop n ends_old) (sym count_is);
        },
      );
      too_small = λ is. (
        names,
        refl,
        all ∙ ap length joined,
        counted,
        elim (small is) [
          | inl few ↦ inl (subst (λ n. length old < n) (sym all) few)
          | inr few ↦ inr (subst (λ n. length ends_old < n) (sym count_is) few)
        ],
      );
      buffers_kept = kept;
      counts_kept = λ not_done not_small. absurd (not_small (others not_done));
    }
  where
    count_is : count ≡ length bytes_end
    count_is = counted ∙ sym (length-ends_from 0 names) ∙ ap length (sym ended)

-- a call that reports a fault does so too under a weaker property
pub sets_as : {P Q : FaultRecord → Type 0} {s : List ℕ} {result : ℕ} {old new : FaultRecord}
    → ((it : FaultRecord) → P it → Q it) → SetsFault P s result old new → SetsFault Q s result old new
sets_as so sets = record {
  refused = λ is. so _ (sets.refused is);
  within = sets.within;
  fault_kept = sets.fault_kept;
}

-- the result of filling in a document from pairs is that by number
pub by_number : (format : Format) (s : List ℕ) (names : List (List ℕ)) (values : Values) (pairs given : List Pair)
    (r : Result (String Global) Unfilled) → ((name : List ℕ) → pair_value pairs name ≡ look_of names values name)
    → given ≡ pairs → IsResultOf format (pair_value given) s r → IsResultOf format (look_of names values) s r
by_number format s names values pairs given r same is result =
    subst (λ l. IsResultOf format l s r) (fun_ext (λ name. ap (λ p. pair_value p name) is ∙ same name)) result

-- the names of the listed strings of a TOML document are its names
pub toml_names : (s : List ℕ) (list items : List StringAt) (names : List (List ℕ)) → IsListing s list
    → ReadsAsTree s (λ d. Unit {0}) → items ≡ list
    → (used : List (List ℕ)) × UseNames (map text_at items) used × (names ≡ distinct used)
    → HasNames Toml s names
toml_names s list items names listing (ms, reads, done) same (used, uses, once) = record {
  strings = map text_at items;
  are_strings = (
    ms,
    reads,
    (
      map spelled_of list,
      listing.all,
      ap (map text_at) same ∙ sym (map-map (λ (it : Spelled). it.text) spelled_of list),
    ),
  );
  used = used;
  uses = uses;
  once = once;
}

-- if every name has a value, no fault of a source is a missing variable
known_fault : (s : List ℕ) (f : Fault) → Answers s every_name (Refuses f) → fault_number f ≢ NO_SUCH_VARIABLE
known_fault s (InvalidEscapeSequence position character) refused = λ e. cc
known_fault s (MissingVariableName position len) refused = λ e. cc
known_fault s (UnexpectedCharacter position character expected) refused = λ e. cc
known_fault s (MissingClosingBrace position) refused = λ e. cc
known_fault s (NoSuchVariable position name) (inl fault) = absurd (fault_is_known position name fault refl)
known_fault s (NoSuchVariable position name) (inr (t, spells, (q, n, missing, same))) =
    let (more, is) = missing_first 0 q t every_name n missing in
    let lacks : every_name n ≡ None =
    (subst (AllByRecursion (λ v. every_name v.name ≡ None)) is (missing_lacked 0 t every_name)).0 in
    absurd cc

some_fault : {x y : Fault} → Some x ≡ Some y → x ≡ y
some_fault e = cc

-- the same for the first refusal of strings of JSON, TOML and YAML documents
known_in_json : (found : List Located) (path : List PathStep) (text : List ℕ) (f : Fault) (more : List Refusal)
    → AreRefusals (under every_name) found (record { path = path; text = text; fault = Some f } ∷ more)
    → fault_number f ≢ NO_SUCH_VARIABLE
known_in_json [] path text f more are = absurd cc
known_in_json (it ∷ found) path text f more (inl (gives, later)) = known_in_json found path text f more later
known_in_json (it ∷ found) path text f more (inr (g, rest, refused, same, later)) =
    let one : Refusal = record { path = path; text = text; fault = Some f } in
    let other : Refusal = record { path = it.path; text = it.text; fault = Some g } in
    let heads : one ≡ other = cc in
    let is : g ≡ f = some_fault (sym (ap (λ (r : Refusal). r.fault) heads)) in
    subst (λ h. fault_number h ≢ NO_SUCH_VARIABLE) is (known_fault it.text g refused)

known_in_toml : (found : List Spelled) (text : List ℕ) (span : Range ℕ) (f : Fault) (more : List RefusalIn)
    → AreRefusalsIn (under every_name) found (record { text = text; span = span; fault = Some f } ∷ more)
    → fault_number f ≢ NO_SUCH_VARIABLE
known_in_toml [] text span f more are = absurd cc
known_in_toml (it ∷ found) text span f more (inl (gives, later)) = known_in_toml found text span f more later
known_in_toml (it ∷ found) text span f more (inr (g, rest, refused, same, later)) =
    let one : RefusalIn = record { text = text; span = span; fault = Some f } in
    let other : RefusalIn = record { text = it.text; span = it.span; fault = Some g } in
    let heads : one ≡ other = cc in
    let is : g ≡ f = some_fault (sym (ap (λ (r : RefusalIn). r.fault) heads)) in
    subst (λ h. fault_number h ≢ NO_SUCH_VARIABLE) is (known_fault it.text g refused)

known_in_yaml : (found : List yaml.Found) (first : yaml.RefusalAt) (f : Fault) (more : List yaml.RefusalAt)
    → yaml.AreRefusalsOf (under every_name) found (first ∷ more) → error_fault first.error ≡ Some f
    → fault_number f ≢ NO_SUCH_VARIABLE
known_in_yaml [] first f more are has = absurd cc
known_in_yaml (it ∷ found) first f more (inl (gives, later)) has = known_in_yaml found first f more later has
known_in_yaml (it ∷ found) first f more (inr (g, rest, same, refused, later)) has =
    let here : first ≡ g = cc in
    let is : refused.fault ≡ f = some_fault (sym refused.fault_is ∙ ap (λ (r : yaml.RefusalAt). error_fault r.error)
    (sym here) ∙ has) in
    subst (λ h. fault_number h ≢ NO_SUCH_VARIABLE) is (known_fault it.text refused.fault refused.refused)

first_known : (format : Format) (s : List ℕ) (it : Refused format) → IsFirst format every_name s it
    → fault_number it.fault ≢ NO_SUCH_VARIABLE
first_known Json s it ((more, are), token) = known_in_json _ it.path it.text it.fault more are
first_known Toml s it ((more, (found, all, are)), spelled, leads) =
    known_in_toml found it.text it.token it.fault more are
first_known Yaml s it (first, more, all, same, has) =
    let (es, reads, are) = all.each in known_in_yaml _ first it.fault more are has

-- a document that is refused with every name isn't refused for a missing variable
pub never_missing : (format : Format) (s : List ℕ) (reported : FaultRecord)
    → IsReported format every_name s reported → reported.kind ≢ NO_SUCH_VARIABLE
never_missing format s reported (inl (none, kind, boundary)) = λ e. cc
never_missing format s reported (inr (it, first, is)) =
    subst (λ k. k ≢ NO_SUCH_VARIABLE) (sym is.kind) (first_known format s it first)
