-- Lemmas on a parse of the command `subst`: what it finds, that no two options that exclude each other are
-- given, and what its flags and its output mean.
use Rattle.std.proofs.Common.{◌≡◌, ◌++◌, ◌<◌, ◌∙◌, ℕ, Bool, true, false, not, List, [], ◌∷◌, drop, length, None, Some, suc, zero, ap, codes, refl, sym, subst, arith}
use Rattle.std.proofs.lemmas.List.Folds.{list_any_at}
use Rattle.std.proofs.lemmas.List.Sums.{AllPass-from_list_all}
use Rattle.std.proofs.lemmas.Slice.Eq.{bytes_eq-Decides}
use Rattle.std.specs.Borrow.{Bor}
use Rattle.std.specs.List.{list_all, slice_index_or}
use Rattle.std.specs.Option.{option_map_or}
use Rattle.std.specs.Prelude.{◌&&◌, ◌||◌, IfSome, find, map}
use Rattle.std.specs.Str.{bytes_eq}
use Rattle.clap.proofs.OnLiterals.{clap_on_literals}
use Rattle.clap.specs.Built.{IsParsedFrom}
use Rattle.clap.specs.Facts.{Entry, IsConflictFree, IsParsed, HasNoConflicts, args_of, arg_declares, declares_conflict, explicit_source, has_arg, is_explicit, is_in_conflict, names}
use Rattle.clap.specs.Matches.{found_of, has_subcommand}
use Rattle.clap.specs.Simple.{App, app_of, is_simple, matches_of}
use Rattle.clap.specs.Takes.{is_given}
use Rattle.clap.specs.Walk.{Row, Text, first_of, row_of, rows_of}
use Rattle.clap.specs.declared.builder.arg.Arg.{Arg}
use Rattle.clap.specs.declared.builder.command.Command.{Command}
use Rattle.clap.specs.declared.parser.matches.ArgMatches.{ArgMatches}
use Rattle.clap.specs.declared.parser.matches.Found.{Found}
use Rattle.subst_options.specs.CommandLine.{AreAlone, IsFlag, IsPrint, asked, exclusion_of, exclusion_of_option, exclusions, is_standard_output, options, subst_app}

-- `clap` states what it finds of the command `subst`
pub simple : is_simple subst_app ≡ true
unfolding clap_on_literals subst_app options
simple = refl

-- what it finds of a command that is `subst`
pub asked_of : (app : App) (words : List Text) → app ≡ subst_app → matches_of app words ≡ asked words
unfolding asked
asked_of app words same = ap (λ (a : App). matches_of a words) same

-- the third of four tests fails
third_fails : (a b c d : Bool) → (a && (b && (not c && d))) ≡ true → c ≡ false
third_fails a b false d h = refl
third_fails true true true d h = absurd cc
third_fails true false true d h = absurd cc
third_fails false b true d h = absurd cc

plain : subst_app.top.is_plain ≡ true
unfolding subst_app
plain = refl

-- a parse of the command `subst`
parsed_of : (old : Command) (m : ArgMatches) (p : IsParsedFrom old m) → app_of old ≡ subst_app
    → IsParsed p.built (found_of m) (has_subcommand m)
parsed_of old m p same =
    let test : (app_of old).top.is_plain ≡ true = ap (λ (a : App). a.top.is_plain) same ∙ plain in
    p.parsed (p.from.globals ∙ third_fails _ _ _ _ test)

-- an option that is given has an entry
given_entry : (id : Text) (es : List Entry)
    → option_map_or (λ r. explicit_source r.source) (find (λ r. bytes_eq r.id id) (map row_of es)) false ≡ true
    → (k : ℕ) × (e : Entry) × (k < length es) × (slice_index_or es k e ≡ e) × (bytes_eq e.0.now id ≡ true)
    × (is_explicit e ≡ true)
given_entry id [] h = absurd cc
given_entry id (e ∷ es) h = of (bytes_eq e.0.now id) refl (given_entry id es)
  where
    of : (test : Bool) → bytes_eq e.0.now id ≡ test
        → (option_map_or (λ r. explicit_source r.source) (find (λ r. bytes_eq r.id id) (map row_of es)) false
        ≡ true → (k : ℕ) × (e : Entry) × (k < length es) × (slice_index_or es k e ≡ e)
        × (bytes_eq e.0.now id ≡ true) × (is_explicit e ≡ true))
        → (k : ℕ) × (x : Entry) × (k < length (e ∷ es)) × (slice_index_or (e ∷ es) k x ≡ x)
        × (bytes_eq x.0.now id ≡ true) × (is_explicit x ≡ true)
    of true t later = (0, e, omega arith, refl, t, rw t at h)
    of false t later =
        let r = later (rw t at h) in
        (suc r.0, r.1, omega arith, r.3, r.4, r.5)

-- the test of a conflict passes
all_three : (a b d x : Bool) → a ≡ true → b ≡ false → d ≡ true → (a && not b && (d || x)) ≡ true
all_three a b d x one two three = rw (one, two, three) refl

-- two options that exclude each other aren't both given
not_both : (c : Command) (f : Found) → HasNoConflicts c f → (k : ℕ) (d : Arg) → k < length (args_of c)
    → (id other : Text) → bytes_eq (slice_index_or (args_of c) k d).id.now id ≡ true
    → names (slice_index_or (args_of c) k d).conflicts.items other ≡ true → bytes_eq other id ≡ false
    → (is_given id (rows_of f) && is_given other (rows_of f)) ≡ false
not_both c f free k d below id other same named apart =
    of (is_given id (rows_of f)) (is_given other (rows_of f)) refl refl
  where
    has : has_arg c id ≡ true
    has = list_any_at (λ a. bytes_eq a.id.now id) (args_of c) k d below same

    declared : declares_conflict c id other ≡ true
    declared =
        let found : arg_declares c id other ≡ true =
        list_any_at (λ a. bytes_eq a.id.now id && (names a.conflicts.items other || names a.overrides.items other))
        (args_of c) k d below (rw (same, named) refl) in
        rw (has, found) refl

    clash : is_given id (rows_of f) ≡ true → is_given other (rows_of f) ≡ true → ⊥
    clash one two =
        let a = given_entry id f.entries.items one in
        let b = given_entry other f.entries.items two in
        let is : a.1.0.now ≡ id = (bytes_eq-Decides a.1.0.now id).0 a.4 in
        let is_other : b.1.0.now ≡ other = (bytes_eq-Decides b.1.0.now other).0 b.4 in
        let alone : IsConflictFree c f a.1 = subst (IsConflictFree c f) a.3 (free a.0 a.1 a.2) in
        let no_conflict : is_in_conflict c f id ≡ false =
        subst (λ (t : Text). is_in_conflict c f t ≡ false) is
        (alone a.5 (subst (λ (t : Text). has_arg c t ≡ true) (sym is) has)) in
        let apart_b = subst (λ (t : Text). bytes_eq t id ≡ false) (sym is_other) apart in
        let declared_b = subst (λ (t : Text). declares_conflict c id t ≡ true) (sym is_other) declared in
        let test : Entry → Bool = λ e. is_explicit e && not (bytes_eq e.0.now id)
        && (declares_conflict c id e.0.now || declares_conflict c e.0.now id) in
        let conflict : is_in_conflict c f id ≡ true = list_any_at test f.entries.items b.0 b.1 b.2
        (subst (λ (e : Entry). test e ≡ true) (sym b.3) (all_three (is_explicit b.1) (bytes_eq b.1.0.now id)
        (declares_conflict c id b.1.0.now) (declares_conflict c b.1.0.now id) b.5 apart_b declared_b)) in
        let bad : true ≡ false = sym conflict ∙ no_conflict in
        cc

    of : (x y : Bool) → is_given id (rows_of f) ≡ x → is_given other (rows_of f) ≡ y
        → (is_given id (rows_of f) && is_given other (rows_of f)) ≡ false
    of false y one two = rw one refl
    of true false one two = rw (one, two) refl
    of true true one two = absurd (clash one two)

-- a name of a list is one of its names
or_true : (b : Bool) → (b || true) ≡ true
or_true true = refl
or_true false = refl

named_at : (ids : List (Bor Text)) (j : ℕ) (d : Text) → j < length (map (λ id. id.now) ids)
    → names ids (slice_index_or (map (λ id. id.now) ids) j d) ≡ true
named_at [] j d below = absurd (omega arith)
named_at (x ∷ xs) zero d below =
    let one : bytes_eq x.now x.now ≡ true = (bytes_eq-Decides x.now x.now).1 refl in
    rw one refl
named_at (x ∷ xs) (suc j) d below =
    let later = named_at xs j d (omega arith) in
    rw later (or_true _)

-- an element at an index
element : {X : Type 0} (xs : List X) (k : ℕ) → k < length xs → X
element [] k below = absurd (omega arith)
element (x ∷ xs) k below = x

-- two lists that are mapped to one have the same elements
same_at : {X Y Z : Type 0} (f : X → Z) (g : Y → Z) (xs : List X) (ys : List Y) (zs : List Z) (k : ℕ) (d : Y)
    → map f xs ≡ map g ys ++ zs → k < length ys
    → (k < length xs) × ((x : X) → f (slice_index_or xs k x) ≡ g (slice_index_or ys k d))
same_at f g xs [] zs k d e below = absurd (omega arith)
same_at f g [] (y ∷ ys) zs k d e below =
    let short : 0 ≡ suc (length (map g ys ++ zs)) = ap length e in
    absurd (omega arith)
same_at f g (x ∷ xs) (y ∷ ys) zs zero d e below =
    (omega arith, λ first. ap (λ l. slice_index_or l 0 (f x)) e)
same_at f g (x ∷ xs) (y ∷ ys) zs (suc k) d e below =
    let r = same_at f g xs ys zs k d (ap (drop 1) e) (omega arith) in
    (omega arith, r.1)

-- no option excludes itself
apart : list_all (λ o. list_all (λ other. not (bytes_eq other o.name)) o.excludes) options ≡ true
unfolding options
apart = refl

not_true : (b : Bool) → not b ≡ true → b ≡ false
not_true true h = absurd cc
not_true false h = refl

-- no two options that exclude each other are given
pub are_alone : (old : Command) (m : ArgMatches) → IsParsedFrom old m → app_of old ≡ subst_app
    → map exclusion_of (args_of old) ≡ exclusions → AreAlone (rows_of (found_of m))
unfolding exclusions
are_alone old m p same listed = λ k o below j other named.
    let o_k = slice_index_or options k o in
    let at = same_at exclusion_of exclusion_of_option (args_of old) options _ k o listed below in
    let d = element (args_of old) k at.0 in
    let is = at.1 d in
    let kept = p.from.kept k d at.0 in
    let built = slice_index_or (args_of p.built) k d in
    let id : built.id.now ≡ o_k.name = ap (λ (i : Bor Text). i.now) kept.1.id
    ∙ ap (λ (e : Text × List Text). e.0) is in
    let excludes : map (λ i. i.now) built.conflicts.items ≡ o_k.excludes =
    ap (map (λ (i : Bor Text). i.now)) kept.1.conflicts ∙ ap (λ (e : Text × List Text). e.1) is in
    let has = subst
    (λ (l : List Text). j < length l → names built.conflicts.items (slice_index_or l j other) ≡ true)
    excludes (λ low. named_at built.conflicts.items j other low) named in
    let apart_k = AllPass-from_list_all _ options apart k o below in
    let apart_j = AllPass-from_list_all _ o_k.excludes apart_k j other named in
    not_both p.built (found_of m) (parsed_of old m p same).checked.conflicts k d kept.0 o_k.name
    (slice_index_or o_k.excludes j other) ((bytes_eq-Decides built.id.now o_k.name).1 id) has
    (not_true _ apart_j)

-- the outputs are printed if `--output` is standard output
pub printed : (rows : List Row) (file : Text) → first_of (codes "output") rows ≡ Some file
    → is_standard_output file ≡ true → IsPrint rows
printed rows file is standard = (
  subst (λ o. IfSome o (λ name. is_standard_output name ≡ true)) (sym is) standard,
  λ none. let bad : Some file ≡ None = sym is ∙ none in absurd cc,
)

-- the outputs are printed if no option chooses an action
pub printed_by_default : (rows : List Row) → first_of (codes "output") rows ≡ None
    → first_of (codes "output-folder") rows ≡ None → IsFlag rows (codes "in-place") false
    → IsFlag rows (codes "check") false → IsFlag rows (codes "names") false → IsPrint rows
printed_by_default rows none no_folder replaces checks lists = (
  subst (λ o. IfSome o (λ name. is_standard_output name ≡ true)) (sym none) tt,
  λ _. (no_folder, replaces, checks, lists),
)
