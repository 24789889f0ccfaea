-- The parts of a template: their value, their output, and the number of visited ones.
use Rattle.std.proofs.Common.{◌≡◌, ◌≤◌, ℕ, Option, Result, Ok, Err, IfErr, IfSome, List, [], ◌∷◌, length, ap, subst, ◌∙◌}
use Rattle.subst_error.specs.Fault.{Fault}
use Rattle.subst_error.specs.Range.{range_of}
use Rattle.subst_language.specs.Calls.VariableMap.{ByNames}
use Rattle.subst_language.specs.Language.Answer.{IsMissing}
use Rattle.subst_language.specs.Language.Tree.{Tree}
use Rattle.subst_language.specs.Language.Sentence.{Spells}
use Rattle.subst_language.specs.Language.LookUp.{LookUp}
use Rattle.subst_language.specs.Language.Value.{value}
use Rattle.subst_expand.specs.Filled.{mark, marks_of}
use Rattle.subst_language.specs.Language.Written.{steps_written, written}
use Rattle.subst_language.specs.Parts.Meaning.{IsTemplateOf, visited_parts, parts_value, parts_written}
use Rattle.subst_language.specs.Language.Counts.{visited_count}
use Rattle.subst_language.specs.declared.part.Part.{Part}
use Rattle.subst_language.proofs.Language.AlikeLemmas.{missing_by_names}
use Rattle.subst_language.proofs.Language.OneTreeLemmas.{tree_unique}
use Rattle.subst_language.proofs.Language.RangeWithinLemmas.{expand_error_within}
use Rattle.subst_language.proofs.PartsLemmas.{same_value}

-- the value of the parts is that of the source's tree, which is the only one
pub template_value : (s : List ℕ) (parts : List Part) (t : Tree) (look : LookUp) → IsTemplateOf s parts
    → Spells t s
    → parts_value parts s look ≡ value 0 t look
template_value s parts t look template spells =
    same_value template.mean look
    ∙ ap (λ u. value 0 u look) (tree_unique s template.tree t template.spells spells)

-- the bytes written for the source's tree are written for the parts
pub template_written : (s : List ℕ) (parts : List Part) (t : Tree) (look : LookUp) → IsTemplateOf s parts
    → Spells t s
    → parts_written parts s look ≡ written 0 t look
template_written s parts t look template spells =
    ap steps_written (template.mean.same_steps look)
    ∙ ap (λ u. written 0 u look) (tree_unique s template.tree t template.spells spells)

-- an expansion visits as many parts as it visits of the source's tree
pub template_count : (s : List ℕ) (parts : List Part) (t : Tree) (look : LookUp) → IsTemplateOf s parts
    → Spells t s
    → length (visited_parts parts 0 0 s look) ≡ visited_count t look
template_count s parts t look template spells =
    template.mean.same_count look ∙ ap (λ u. visited_count u look)
    (tree_unique s template.tree t template.spells spells)

-- the missing variable of the parts, if each value is a mark: that of the source's tree under each look-up
-- with values for the same names
pub template_missing : {Seen : Type 0} (s : List ℕ) (parts : List Part) (t : Tree)
    (look_up : List ℕ → Option Seen) (stated : Option Fault) → IsTemplateOf s parts → Spells t s
    → IfSome stated (IsMissing (parts_value parts s (marks_of look_up)))
    → ByNames look_up (λ look. IfSome stated (IsMissing (value 0 t look)))
template_missing s parts t look_up stated template spells missing =
    let gives = template_value s parts t (marks_of look_up) template spells in
    missing_by_names t (λ _. mark ∷ []) look_up stated
    (subst (λ v. IfSome stated (IsMissing v)) gives missing)

-- the range of the error of an expansion ends within the source
pub template_range : {Seen : Type 0} (s : List ℕ) (parts : List Part) (look_up : List ℕ → Option Seen)
    (stated : Option Fault) → IsTemplateOf s parts
    → IfSome stated (IsMissing (parts_value parts s (marks_of look_up))) → (range_of stated).end ≤ length s
template_range s parts look_up stated template missing =
    let look = marks_of look_up in
    expand_error_within s template.tree look stated template.spells
    (subst (λ v. IfSome stated (IsMissing v)) (same_value template.mean look) missing)

-- a missing variable of the parts that the error of a result states is one of the source's tree
pub errors_missing : {Seen T E : Type 0} (fault_of : E → Option Fault) (s : List ℕ) (parts : List Part)
    (t : Tree) (look_up : List ℕ → Option Seen) (result : Result T E) → IsTemplateOf s parts → Spells t s
    → IfErr result (λ e. IfSome (fault_of e) (IsMissing (parts_value parts s (marks_of look_up))))
    → ByNames look_up (λ look. IfErr result (λ e. IfSome (fault_of e) (IsMissing (value 0 t look))))
errors_missing fault_of s parts t look_up (Ok x) template spells missing look names = tt
errors_missing fault_of s parts t look_up (Err e) template spells missing look names =
    template_missing s parts t look_up (fault_of e) template spells missing look names

-- the range of each error of an expansion's result ends within the source
pub errors_range : {Seen T E : Type 0} (fault_of : E → Option Fault) (s : List ℕ) (parts : List Part)
    (look_up : List ℕ → Option Seen) (result : Result T E) → IsTemplateOf s parts
    → IfErr result (λ e. IfSome (fault_of e) (IsMissing (parts_value parts s (marks_of look_up))))
    → IfErr result (λ e. (range_of (fault_of e)).end ≤ length s)
errors_range fault_of s parts look_up (Ok x) template missing = tt
errors_range fault_of s parts look_up (Err e) template missing =
    template_range s parts look_up (fault_of e) template missing
