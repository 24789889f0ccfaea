-- The concatenated outputs of rows.
use Rattle.std.proofs.Common.{◌≡◌, ℕ, suc, ◌+◌, ◌<◌, ◌≤◌, List, [], ◌∷◌, ◌++◌, take, get_or, length, Option, Some, None, IfSome, Result, Ok, Err, IfErr, option_map, inl, inr, refl, sym, ap, ◌∙◌, subst, arith, append-nil, length-append}
use Rattle.std.proofs.lemmas.List.{length-take-le, take_more}
use Rattle.std.proofs.lemmas.List.Folds.{concat-append}
use Rattle.std.specs.List.{concat}
use Rattle.std.specs.Result.{IsErrAnd}
use Rattle.subst_language.proofs.CallingLemmas.{range_in_source, same_look_up}
use Rattle.subst_language.proofs.Language.SeveralLemmas.{each_more, length_each, refused_at}
use Rattle.subst_language.specs.Calls.VariableMap.{look_up_of}
use Rattle.subst_error.specs.ErrorFault.{error_fault, expand_fault}
use Rattle.subst_error.specs.declared.Error.{Error}
use Rattle.subst_error.specs.declared.ExpandError.{ExpandError}
use Rattle.subst_error.specs.Fault.{Fault}
use Rattle.subst_language.specs.Language.Answer.{Answers, Gives, IsMissing, Refuses}
use Rattle.subst_language.specs.Language.LookUp.{LookUp}
use Rattle.subst_language.specs.Language.Sentence.{Spells}
use Rattle.subst_language.specs.Language.Several.{RefusesAt}
use Rattle.subst_language.specs.Language.Tree.{Tree}
use Rattle.subst_language.specs.Language.Value.{Bytes, value}
use Rattle.subst_error.specs.Range.{range_of}
use Rattle.subst_c.specs.Each.{AreOutputs, ends_from, IsRefusedIn, under_row}
use Rattle.subst_c.specs.Pairs.{pair_value}
use Rattle.subst_c.specs.declared.pairs.Row.{Row}

-- there are as many ends as outputs
pub length-ends_from : (n : ℕ) (outputs : List (List ℕ)) → length (ends_from n outputs) ≡ length outputs
length-ends_from n [] = refl
length-ends_from n (o ∷ outputs) = ap suc (length-ends_from (n + length o) outputs)

-- the next output ends where all of them end
pub ends_from-append : (n : ℕ) (outputs : List (List ℕ)) (output : List ℕ) → ends_from n (outputs ++ output ∷ [])
    ≡ ends_from n outputs ++ (n + length (concat outputs ++ output)) ∷ []
ends_from-append n [] output = refl
ends_from-append n (o ∷ outputs) output =
    let all = concat outputs in
    let later = ends_from-append (n + length o) outputs output in
    let e : n + length o + length (all ++ output) ≡ n + length ((o ++ all) ++ output) =
    omega (arith, length-append all output, length-append o all, length-append (o ++ all) output) in
    ap (λ l. (n + length o) ∷ l) (later ∙ ap (λ m. ends_from (n + length o) outputs ++ m ∷ []) e)

-- the concatenated outputs, with one more
pub concat-more : (outputs : List (List ℕ)) (output : List ℕ)
    → concat (outputs ++ output ∷ []) ≡ concat outputs ++ output
concat-more outputs output =
    concat-append outputs (output ∷ []) ∙ ap (λ x. concat outputs ++ x) (append-nil output)

-- the output of the row at an index, after those of the rows before it
pub one_more : (s : List ℕ) (rows : List Row) (i : ℕ) (d : Row)
    (bytes ends output new_bytes new_ends : List ℕ) → i < length rows → AreOutputs s (take i rows) bytes ends
    → Answers s (pair_value (get_or rows i d).pairs.now) (Gives output) → new_bytes ≡ bytes ++ output
    → new_ends ≡ ends ++ length new_bytes ∷ [] → AreOutputs s (take (i + 1) rows) new_bytes new_ends
one_more s rows i d bytes ends output new_bytes new_ends h are given joined ended =
    let all = are.outputs in
    let row = get_or rows i d in
    let bytes_are : new_bytes ≡ concat all ++ output = joined ∙ ap (λ b. b ++ output) are.joined in
    let end : length new_bytes ≡ 0 + length (concat all ++ output) = omega (arith, ap length bytes_are) in
    let ends_are : new_ends ≡ ends_from 0 all ++ (0 + length (concat all ++ output)) ∷ [] =
    ended ∙ ap (λ e. e ++ length new_bytes ∷ []) are.ended ∙ ap (λ m. ends_from 0 all ++ m ∷ []) end in
    subst (λ r. AreOutputs s r new_bytes new_ends) (sym (take_more rows i d h)) (record {
      sentence = are.sentence;
      outputs = all ++ output ∷ [];
      given = each_more (under_row s) (take i rows) all row output are.given given;
      joined = bytes_are ∙ sym (concat-more all output);
      ended = ends_are ∙ sym (ends_from-append 0 all output);
    })

-- the row at an index is refused, after outputs of the rows before it
pub row_refused : (s : List ℕ) (rows : List Row) (i : ℕ) (d : Row)
    (bytes ends new_ends : List ℕ) (e o : Option Fault) → i < length rows
    → AreOutputs s (take i rows) bytes ends → new_ends ≡ ends → e ≡ o
    → IfSome o (λ f. Answers s (pair_value (get_or rows i d).pairs.now) (Refuses f))
    → IfSome e (IsRefusedIn s rows (length new_ends))
row_refused s rows i d bytes ends new_ends e o h are same states refused =
    subst (λ x. IfSome x (IsRefusedIn s rows (length new_ends))) (sym states) (of o refused)
  where
    counted : length new_ends ≡ i
    counted = ap length (same ∙ are.ended) ∙ length-ends_from 0 are.outputs
        ∙ length_each (under_row s) (take i rows) are.outputs are.given
        ∙ length-take-le i rows (omega arith)

    of : (o : Option Fault) → IfSome o (λ f. Answers s (pair_value (get_or rows i d).pairs.now) (Refuses f))
        → IfSome o (IsRefusedIn s rows (length new_ends))
    of None r = tt
    of (Some f) r =
        inr (subst (λ n. RefusesAt (under_row s) rows n f) (sym counted)
        (refused_at (under_row s) rows i d f h (are.outputs, are.given) r))

-- the range of such a fault ends in the source
pub refused_within : (s : List ℕ) (rows : List Row) (i : ℕ) (e : Error)
    → IfSome (error_fault e) (IsRefusedIn s rows i) → (range_of (error_fault e)).end ≤ length s
refused_within s rows i e h =
    let is = some_look (error_fault e) h in
    range_in_source s is.0 e is.1
  where
    some_look : (o : Option Fault) → IfSome o (IsRefusedIn s rows i)
        → (look : LookUp) × IfSome (option_map Refuses o) (Answers s look)
    some_look None h = ((λ _. None), tt)
    some_look (Some f) (inl fault) = ((λ _. None), inl fault.0)
    some_look (Some f) (inr at) = (pair_value at.here.pairs.now, at.refused)

-- a missing variable is the fault that the source is refused for
pub refused_for_value : {T : Type 0} (s : List ℕ) (look : LookUp) (t : Tree) (r : Result T ExpandError)
    (e : ExpandError) → IsErrAnd r (λ x. x ≡ e) → Spells t s
    → IfSome (expand_fault e) (IsMissing (value 0 t look))
    → IfErr r (λ x. IfSome (expand_fault x) (λ f. Answers s look (Refuses f)))
refused_for_value s look t (Ok x) e same spells h = tt
refused_for_value s look t (Err x) e same spells h =
    subst (λ y. IfSome (expand_fault y) (λ f. Answers s look (Refuses f))) (sym same) (of (expand_fault e) h)
  where
    of : (o : Option Fault) → IfSome o (IsMissing (value 0 t look))
        → IfSome o (λ f. Answers s look (Refuses f))
    of None missing = tt
    of (Some f) missing = inr (t, spells, missing)

pub refused_for_missing : {T : Type 0} (s : List ℕ) (look : LookUp) (t : Tree) (r : Result T ExpandError)
    (e : ExpandError) → IsErrAnd r (λ x. x ≡ e) → Spells t s
    → IfSome (expand_fault e) (IsMissing (value 0 t (look_up_of (λ v. v) look)))
    → IfErr r (λ x. IfSome (expand_fault x) (λ f. Answers s look (Refuses f)))
refused_for_missing s look t r e same spells h =
    refused_for_value s look t r e same spells
    (subst (λ l. IfSome (expand_fault e) (IsMissing (value 0 t l))) (same_look_up look) h)

-- bytes that are the value of the source's tree are its output
pub gives_value : (s x : List ℕ) (look : LookUp) (t : Tree) → Spells t s
    → value 0 t (look_up_of (λ v. v) look) ≡ Bytes x → Answers s look (Gives x)
gives_value s x look t spells h = (t, spells, subst (λ l. value 0 t l ≡ Bytes x) (same_look_up look) h)
