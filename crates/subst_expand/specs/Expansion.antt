-- The outcome of an expansion, defined by the parts of its source.
use Rattle.std.specs.Prelude.{◌≡◌, ℕ, ◌+◌, ◌<◌, List, length, Option, Result, IfErr, IfSome, OnErr, OnOk}
use Rattle.subst_error.specs.ErrorFault.{expand_into_fault}
use Rattle.subst_error.specs.declared.borrowed.ExpandIntoError.{ExpandIntoError}
use Rattle.subst_language.specs.Language.Answer.{IsMissing}
use Rattle.subst_language.specs.Calls.VariableMap.{ByLookUp}
use Rattle.subst_language.specs.Calls.Outcome.{ExpandsInto, OnOutOfMemory}
use Rattle.subst_expand.specs.Filled.{marks_of}
use Rattle.subst_expand.specs.Output.{AppendsFilled}
use Rattle.subst_language.specs.Parts.Meaning.{IsTemplateOf, parts_value, parts_written}
use Rattle.subst_language.specs.declared.part.Part.{Part}

-- The outcome of an expansion of the parts of the source s. `read v` is the bytes as which a value v is read,
-- and `is_read` holds of them; `see` and `look_up` are the map's. `before` and `after` are the output's items
-- before and after the expansion. `capacity` and `len` are the output's capacity and length before the
-- expansion.
pub record ExpandsParts {V Seen : Type 0} (read : V → List ℕ) (is_read : List ℕ → Type 0) (see : V → Seen)
    (look_up : List ℕ → Option Seen) (s : List ℕ) (parts : List Part) (before after : List ℕ)
    (capacity len : ℕ) (outcome : Result (Unit {0}) ExpandIntoError) : Type 0 where
  pub value : ByLookUp read see look_up (λ look. ExpandsInto before outcome after (parts_value parts s look))
  pub kept : OnErr outcome (after ≡ before)
  pub full : ByLookUp read see look_up (λ look. OnOutOfMemory expand_into_fault outcome
      (capacity < len + length (parts_written parts s look)))
  pub filled : OnOk outcome (AppendsFilled is_read (parts_value parts s (marks_of look_up)) before after)
  pub missing : IfErr outcome (λ e. IfSome (expand_into_fault e)
      (IsMissing (parts_value parts s (marks_of look_up))))

-- `ExpandsParts` for the parts of a template of the source s
pub record IsExpansion {V Seen : Type 0} (read : V → List ℕ) (is_read : List ℕ → Type 0) (see : V → Seen)
    (look_up : List ℕ → Option Seen) (s before after : List ℕ) (capacity len : ℕ)
    (outcome : Result (Unit {0}) ExpandIntoError) : Type 0 where
  pub parts : List Part
  pub template : IsTemplateOf s parts
  pub expands : ExpandsParts read is_read see look_up s parts before after capacity len outcome

-- The output of a template of the source s was appended to `before`. That output is stated with marks: first
-- each value is a single mark, and then some marks are replaced by bytes of which `is_read` holds.
abbrev pub AppendsTemplate : {Seen : Type 0} → (List ℕ → Type 0) → (List ℕ → Option Seen)
    → (s before after : List ℕ) → Type 0
AppendsTemplate is_read look_up s before after = (parts : List Part) × IsTemplateOf s parts
    × AppendsFilled is_read (parts_value parts s (marks_of look_up)) before after
