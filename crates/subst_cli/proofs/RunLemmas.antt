-- Lemmas on runs that handle their files one at a time.
use Rattle.std.proofs.Common.{◌≡◌, ◌==◌, ◌&&◌, ◌||◌, ◌<◌, ◌≤◌, ◌+◌, ◌∙◌, ◌++◌, ◌∷◌, ℕ, Bool, true, false, List, [], Option, Result, Ok, Err, add-one, ap, arith, cond, drop, get_or, length, refl, string_bytes, subst, sym, take, take-suc}
use Rattle.std.proofs.Math.ListN.{drop_of_length-le}
use Rattle.std.proofs.lemmas.Bool.{false≢true}
use Rattle.std.proofs.lemmas.Grind.{common_steps}
use Rattle.std.proofs.lemmas.List.{take_all, take-append-drop}
use Rattle.std.proofs.lemmas.List.Folds.{list_any-append}
use Rattle.std.proofs.lemmas.Result.{on_ok_weaker}
use Rattle.std.specs.HashSet.{HashSet, Updates}
use Rattle.std.specs.List.{list_any}
use Rattle.std.specs.Prelude.{IfOk, IsErr, OnOk, max}
use Rattle.std.specs.Str.{bytes_eq}
use Rattle.std.specs.declared.alloc.AllocError.{AllocError}
use Rattle.subst_cli.proofs.WrittenLemmas.{calls_then, status_then}
use Rattle.subst_cli.specs.Files.{Event, FileResult, GoesOn, LookedAt, calls_of, status_of_result}
use Rattle.subst_expander.specs.Layers.{Entry}
use Rattle.subst_cli.specs.Status.{IsStatus}
use Rattle.subst_cli.specs.Templates.{target_in}
use Rattle.subst_cli.specs.Written.{Checks, IsChecked, IsDone, IsDoneOnce, IsReplacedOnce, IsRun, IsWrittenOnce, Replaces, WritesInto, has_place, is_taken, then_checked, then_replaced, then_written, with_place}
use Rattle.subst_cli.specs.declared.files.AtPath.{AtPath}
use Rattle.subst_cli.specs.declared.files.AtPath.TheVariants.{Regular, Other, Unknown}
use Rattle.subst_expander.specs.declared.format_rule.FormatRule.{FormatRule}
use Rattle.subst_expander.specs.declared.kinds.Placeholders.{Placeholders}
use Rattle.subst_cli.specs.declared.report.Severity.{Severity}
use Rattle.subst_cli.specs.declared.templates.Template.{Template}

-- the elements before an index, and the one at it
pub one_more : {T : Type 0} (xs : List T) (i : ℕ) (x : T) → i < length xs → x ≡ get_or xs i x
    → take (i + 1) xs ≡ take i xs ++ x ∷ []
one_more xs i x below is =
    ap (λ n. take n xs) (add-one i) ∙ take-suc xs i x below ∙ ap (λ y. take i xs ++ y ∷ []) (sym is)

pub one_more_at : {T : Type 0} (xs : List T) (i : ℕ) (d : T) → i < length xs
    → take (i + 1) xs ≡ take i xs ++ get_or xs i d ∷ []
one_more_at xs i d below = ap (λ n. take n xs) (add-one i) ∙ take-suc xs i d below

-- nothing is required of a success if there is none
pub no_success : {T E : Type 0} (result : Result T E) (P : Type 0) → IsErr result → OnOk result P
no_success (Ok it) P failed = absurd (false≢true failed)
no_success (Err e) P failed = tt

pub no_value : {T E : Type 0} (result : Result T E) (P : T → Type 0) → IsErr result → IfOk result P
no_value (Ok it) P failed = absurd (false≢true failed)
no_value (Err e) P failed = tt

-- the order of two numbers that are compared doesn't matter
same_either_way : (m n : ℕ) → (m == n) ≡ (n == m)
same_either_way m n = grind (arith, common_steps)

-- the same test of places
pub same_place : (a b : ℕ × ℕ) → (a.0 == b.0 && a.1 == b.1) ≡ (b.0 == a.0 && b.1 == a.1)
same_place a b = rw (same_either_way a.0 b.0, same_either_way a.1 b.1) refl

-- a place was inserted
pub inserted : {S : Type 0} (old new : HashSet (ℕ × ℕ) S) (place : ℕ × ℕ)
    → Updates (λ a b. a.0 == b.0 && a.1 == b.1) old new place true → (other : ℕ × ℕ)
    → has_place new.keys other ≡ has_place (place ∷ old.keys) other
inserted old new place updated other =
    updated.0 other ∙ ap (λ b. cond b true (has_place old.keys other)) (same_place place other)
    ∙ either (other.0 == place.0 && other.1 == place.1) (has_place old.keys other)
  where
    either : (a b : Bool) → cond a true b ≡ (a || b)
    either true b = refl
    either false b = refl

-- the place of a file was inserted
pub inserted_at : {S : Type 0} (old new : HashSet (ℕ × ℕ) S) (at : AtPath) (place : ℕ × ℕ) → at ≡ Regular place
    → Updates (λ a b. a.0 == b.0 && a.1 == b.1) old new place true → (other : ℕ × ℕ)
    → has_place new.keys other ≡ has_place (with_place old.keys at) other
inserted_at old new at place is updated other = rw is (inserted old new place updated other)

-- no place is added for what isn't a regular file
pub others : (at : AtPath) (keys : List (ℕ × ℕ)) → ((place : ℕ × ℕ) → ¬ (at ≡ Regular place))
    → (place : ℕ × ℕ) → has_place keys place ≡ has_place (with_place keys at) place
others (Regular found) keys other place = absurd (other found refl)
others Other keys other place = refl
others Unknown keys other place = refl

-- a path is taken by one more template
pub taken_next : (directory : List ℕ) (templates : List Template) (template : Template) (path : List ℕ)
    → cond (bytes_eq (target_in directory template) path) true (is_taken directory templates path)
    ≡ is_taken directory (templates ++ template ∷ []) path
taken_next directory templates template path =
    let test = λ (it : Template). bytes_eq (target_in directory it) path in
    sym (list_any-append test templates (template ∷ [])
    ∙ either (test template) (list_any test templates))
  where
    either : (a b : Bool) → (b || (a || false)) ≡ cond a true b
    either true true = refl
    either true false = refl
    either false true = refl
    either false false = refl

module _ (rule : FormatRule) (placeholders : Placeholders) (entries : List Entry) (start : ℕ)
    (first : Option (List Event)) where
  -- these templates are checked
  abbrev pub HasChecked : (strict : Bool) → List Template → (last : Option (List Event)) → (worst : Severity)
      → Type 0
  HasChecked strict templates last worst = (status : ℕ) × (calls : List Event)
      × Checks rule placeholders entries strict start templates status calls × GoesOn first last calls
      × IsStatus worst status

  -- one more
  pub one_checked : (strict : Bool) (templates more : List Template) (template : Template)
      (mid last : Option (List Event)) (before after : Severity) → more ≡ templates ++ template ∷ []
      → HasChecked strict templates mid before
      → IsDone (IsChecked rule placeholders entries strict (string_bytes template.file))
      (string_bytes template.file) [] mid last before after
      → HasChecked strict more last after
  one_checked strict templates more template mid last before after same (status, calls, are, went, is)
      (result, right, own, raised) = rw same (
        max status (status_of_result result),
        calls ++ calls_of (string_bytes template.file) [] result,
        then_checked template result are right,
        calls_then first mid last calls _ went own,
        status_then before after status (status_of_result result) is raised,
      )

  -- the outputs of these templates are written
  abbrev pub HasWritten : (directory : List ℕ) → List Template → (last : Option (List Event))
      → (worst : Severity) → Type 0
  HasWritten directory templates last worst = (status : ℕ) × (calls : List Event)
      × WritesInto rule placeholders entries directory start templates status calls × GoesOn first last calls
      × IsStatus worst status

  -- one more
  pub one_written : (directory : List ℕ) (templates more : List Template) (template : Template)
      (taken : Bool) (target : List ℕ) (mid last : Option (List Event)) (before after : Severity)
      → more ≡ templates ++ template ∷ [] → target ≡ target_in directory template
      → taken ≡ is_taken directory templates target → HasWritten directory templates mid before
      → IsDone (IsWrittenOnce rule placeholders entries taken (string_bytes template.file))
      (string_bytes template.file) target mid last before after
      → HasWritten directory more last after
  one_written directory templates more template taken target mid last before after same path is_taken
      (status, calls, are, went, is) (result, right, own, raised) = rw same (
        max status (status_of_result result),
        calls ++ calls_of (string_bytes template.file) (target_in directory template) result,
        then_written template result are
            (subst (λ t. IsWrittenOnce rule placeholders entries t (string_bytes template.file) result)
            (is_taken ∙ ap (λ p. is_taken_by p) path) right),
        calls_then first mid last calls _ went (rw path at own),
        status_then before after status (status_of_result result) is raised,
      )
    where
      is_taken_by : List ℕ → Bool
      is_taken_by = Rattle.subst_cli.specs.Written.is_taken directory templates

  -- these templates are replaced; `keys` are the places of the files that are done
  abbrev pub HasReplaced : List Template → (last : Option (List Event)) → (worst : Severity)
      → (keys : List (ℕ × ℕ)) → Type 0
  HasReplaced templates last worst keys = (status : ℕ) × (calls : List Event) × (places : List (ℕ × ℕ))
      × Replaces rule placeholders entries start templates status calls places × GoesOn first last calls
      × IsStatus worst status × ((place : ℕ × ℕ) → has_place keys place ≡ has_place places place)

  -- the same files are done
  same_places : (keys places : List (ℕ × ℕ)) (at : AtPath) (path : List ℕ) (result : FileResult)
      → ((place : ℕ × ℕ) → has_place keys place ≡ has_place places place)
      → IsReplacedOnce rule placeholders entries keys at path result
      → IsReplacedOnce rule placeholders entries places at path result
  same_places keys places (Regular place) path result same is = rw (sym (same place)) is
  same_places keys places Other path result same is = is
  same_places keys places Unknown path result same is = is

  -- the same files are done after one more
  more_places : (keys places : List (ℕ × ℕ)) (at : AtPath)
      → ((place : ℕ × ℕ) → has_place keys place ≡ has_place places place) → (place : ℕ × ℕ)
      → has_place (with_place keys at) place ≡ has_place (with_place places at) place
  more_places keys places (Regular found) same place =
      ap (λ rest. (place.0 == found.0 && place.1 == found.1) || rest) (same place)
  more_places keys places Other same place = same place
  more_places keys places Unknown same place = same place

  -- one more
  pub one_replaced : (templates more : List Template) (template : Template) (keys : List (ℕ × ℕ))
      (after : AtPath) (mid looked last : Option (List Event)) (one two : Severity)
      → more ≡ templates ++ template ∷ [] → HasReplaced templates mid one keys
      → IsDoneOnce rule placeholders entries keys (string_bytes template.file) mid looked one two
      → GoesOn looked last (LookedAt (string_bytes template.file) after ∷ [])
      → HasReplaced more last two (with_place keys after)
  one_replaced templates more template keys after mid looked last one two same
      (status, calls, places, are, went, is, known) (at, result, right, own, raised) looks = rw same (
        max status (status_of_result result),
        calls ++ (LookedAt (string_bytes template.file) at
            ∷ (calls_of (string_bytes template.file) (string_bytes template.file) result
            ++ (LookedAt (string_bytes template.file) after ∷ []))),
        with_place places after,
        then_replaced template at after result are
            (same_places keys places at (string_bytes template.file) result known right),
        calls_then first mid last calls _ went (calls_then mid looked last _ _ own looks),
        status_then one two status (status_of_result result) is raised,
        more_places keys places after known,
      )

  -- a run that checked all files
  pub all_checked : (strict : Bool) (all : List Template) (i : ℕ) (last : Option (List Event)) (worst : Severity)
      → length all ≤ i → HasChecked strict (take i all) last worst → HasChecked strict all last worst
  all_checked strict all i last worst over has = rw (take_all i all over) at has

  -- a run that handled the files before an index
  pub written_run : (directory : List ℕ) (all : List Template) (i : ℕ) (last : Option (List Event))
      (worst : Severity) (result : Result (Unit {0}) AllocError) → HasWritten directory (take i all) last worst
      → OnOk result (length all ≤ i)
      → IsRun (WritesInto rule placeholders entries directory start) all first last worst result
  written_run directory all i last worst result (status, calls, are, went, is) over = (
    take i all,
    drop i all,
    status,
    calls,
    sym (take-append-drop i all),
    are,
    went,
    on_ok_weaker result (λ end. (drop_of_length-le all end, is)) over,
  )

  -- a run that replaced the files before an index
  pub replaced_run : (all : List Template) (i : ℕ) (last : Option (List Event)) (worst : Severity)
      (keys : List (ℕ × ℕ)) (result : Result (Unit {0}) AllocError) → HasReplaced (take i all) last worst keys
      → OnOk result (length all ≤ i)
      → IsRun (λ handled status calls. (places : List (ℕ × ℕ))
      × Replaces rule placeholders entries start handled status calls places) all first last worst result
  replaced_run all i last worst keys result (status, calls, places, are, went, is, known) over = (
    take i all,
    drop i all,
    status,
    calls,
    sym (take-append-drop i all),
    (places, are),
    went,
    on_ok_weaker result (λ end. (drop_of_length-le all end, is)) over,
  )

  -- the same files are done
  pub with_keys : (templates : List Template) (last : Option (List Event)) (worst : Severity)
      (keys more : List (ℕ × ℕ)) → ((place : ℕ × ℕ) → has_place more place ≡ has_place keys place)
      → HasReplaced templates last worst keys → HasReplaced templates last worst more
  with_keys templates last worst keys more same (status, calls, places, are, went, is, known) =
      (status, calls, places, are, went, is, λ place. same place ∙ known place)
