-- The records of a list of variables are those of the source's tree.
use Rattle.std.proofs.Common.{◌≡◌, ◌≤◌, ◌↔◌, ℕ, ◌+◌, List, length, map, ap, ◌∙◌, subst, sym}
use Rattle.std.proofs.lemmas.List.{length-map, nil_from_length}
use Rattle.std.proofs.lemmas.List.Elements.{All-map}
use Rattle.std.proofs.lemmas.Simd.{map-map}
use Rattle.std.specs.List.{All}
use Rattle.subst_language.proofs.Language.OneTreeLemmas.{tree_unique}
use Rattle.subst_language.proofs.Language.VariablesLemmas.{none_missing}
use Rattle.subst_language.specs.Language.Answer.{Answers, Gives}
use Rattle.subst_language.specs.Language.LookUp.{LookUp}
use Rattle.subst_language.specs.Language.Sentence.{ByTree, IsSentence}
use Rattle.subst_language.specs.Language.Tree.{Tree}
use Rattle.subst_language.specs.Language.Value.{Bytes, value}
use Rattle.subst_language.specs.Language.Variables.{Variable, name_range, all_missing}
use Rattle.subst_c.specs.Records.{HasRecords, variable_record}
use Rattle.subst_c.specs.declared.variables.VariableRecord.{VariableRecord}

-- the records of a list whose items, as variables, are those of the source's tree
pub has_records : {A : Type 0} (view : A → Variable) (of : Tree → List Variable) (s template : List ℕ)
    (list items : List A) → template ≡ s → list ≡ items → IsSentence s
    → ByTree template (λ t. map view items ≡ of t)
    → All (λ x. (name_range (view x)).end ≤ length template) items
    → HasRecords s of (map (λ x. variable_record (view x)) list)
has_records view of s template list items same borrowed (t, spells) are within =
    let is = subst (λ (x : List ℕ). ByTree x (λ t. map view items ≡ of t)) same are t spells in record {
      tree = t;
      spelled = spells;
      are = sym (map-map variable_record view list) ∙ ap (λ l. map variable_record (map view l)) borrowed
          ∙ ap (map variable_record) is;
      within = All-map (λ r. r.position + r.length ≤ length s) (λ x. variable_record (view x)) list
          (rw (borrowed, ← same) within);
    }

-- there are no records of missing variables exactly if the source has an output
pub none_where_it_gives : (look : LookUp) (s : List ℕ) (records : List VariableRecord) (n : ℕ)
    → HasRecords s (λ t. all_missing 0 t look) records → n ≡ length records
    → (n ≡ 0 ↔ ((x : List ℕ) × Answers s look (Gives x)))
none_where_it_gives look s records n has counted =
    let t = has.tree in
    let count : n ≡ length (all_missing 0 t look) =
    counted ∙ ap length has.are ∙ length-map (all_missing 0 t look) variable_record in (
      λ none.
          let bytes = (none_missing 0 t look).0 (nil_from_length (all_missing 0 t look) (sym count ∙ none)) in
          (bytes.0, (t, has.spelled, bytes.1)),
      λ (x, answers).
          let (u, spells, gives) = answers in
          let is = subst (λ v. value 0 v look ≡ Bytes x) (tree_unique s u t spells has.spelled) gives in
          count ∙ ap length ((none_missing 0 t look).1 (x, is)),
    )
