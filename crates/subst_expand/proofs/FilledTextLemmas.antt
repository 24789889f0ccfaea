-- A text with texts in place of its marks is a text.
use Rattle.std.proofs.Common.{◌≡◌, ℕ, Some, None, Option, List, [], ◌∷◌, ◌++◌, sym, ◌∙◌, subst, append_assoc, arith}
use Rattle.std.proofs.lemmas.Str.{IsUtf8-append}
use Rattle.std.specs.Option.{option_map}
use Rattle.std.specs.Prelude.{Result, Ok, Err, OnErr, OnOk}
use Rattle.std.specs.Str.{IsUtf8}
use Rattle.subst_language.specs.Language.LookUp.{GivesTexts}
use Rattle.subst_language.specs.Parts.Meaning.{IsTemplateOf, parts_value}
use Rattle.subst_expand.specs.Filled.{mark, marks_of, IsFilled, FillsMarks}
use Rattle.subst_expand.specs.Filled.IsFilled.{empty, kept, filled}
use Rattle.subst_expand.specs.Output.{AppendsFilled}
use Rattle.subst_language.specs.declared.part.Part.{Part}
use Rattle.subst_language.proofs.Language.Utf8Lemmas.{cut_at, value_is_text, ascii_alone}
use Rattle.subst_language.proofs.PartsLemmas.{same_value}

-- after the bytes u: if the text with marks is UTF-8, so is the text with texts in their place
marks_filled : (u : List ℕ) {x y : List ℕ} → IsFilled IsUtf8 x y → IsUtf8 (u ++ x) → IsUtf8 (u ++ y)
marks_filled u empty is = is
marks_filled u (kept b {x} {y} more) is =
    subst IsUtf8 (append_assoc u (b ∷ []) y)
    (marks_filled (u ++ b ∷ []) more (subst IsUtf8 (sym (append_assoc u (b ∷ []) x)) is))
marks_filled u (filled {x} {y} v passes more) is =
    let (before, after) = cut_at u x mark (omega arith) is in
    IsUtf8-append u (v ++ y) before (IsUtf8-append v y passes (marks_filled [] more after))

-- the look-up of marks is one of texts
marks_are_texts : {Seen : Type 0} (look_up : List ℕ → Option Seen) → GivesTexts (marks_of look_up)
marks_are_texts {Seen} look_up name x = of (look_up name)
  where
    of : (found : Option Seen) → option_map (λ _. mark ∷ []) found ≡ Some x → IsUtf8 x
    of (Some v) e = let same : mark ∷ [] ≡ x = cc in subst IsUtf8 same (ascii_alone mark (omega arith))
    of None e = absurd cc

-- the output of an expansion of a text is a text, if all bytes that it read were
pub output_is_text : {Seen : Type 0} (s : List ℕ) (parts : List Part) (look_up : List ℕ → Option Seen)
    (output : List ℕ) → IsTemplateOf s parts → IsUtf8 s
    → FillsMarks IsUtf8 (parts_value parts s (marks_of look_up)) output → IsUtf8 output
output_is_text s parts look_up output template is fills =
    let t = template.tree in
    let look = marks_of look_up in
    marks_filled [] fills.filled
    (value_is_text t 0 look fills.marked template.spells.well_formed (marks_are_texts look_up)
    (subst IsUtf8 template.spells.spelled is) (sym (same_value template.mean look) ∙ fills.given))

-- a text with the output appended is a text, and so is one that is unchanged
pub text_after : {Seen T E : Type 0} (s : List ℕ) (parts : List Part) (look_up : List ℕ → Option Seen)
    (result : Result T E) {before after : List ℕ} → IsTemplateOf s parts → IsUtf8 s → IsUtf8 before
    → OnErr result (after ≡ before)
    → OnOk result (AppendsFilled IsUtf8 (parts_value parts s (marks_of look_up)) before after) → IsUtf8 after
text_after s parts look_up (Ok done) {before = before} template is first same (x, fills, appended) =
    subst IsUtf8 (sym appended)
    (IsUtf8-append before x first (output_is_text s parts look_up x template is fills))
text_after s parts look_up (Err e) template is first same more = subst IsUtf8 (sym same) first
