-- The results of calls that fill in a text of YAML in place.
use Rattle.std.specs.Prelude.{◌≡◌, ℕ, List, Option, None, Result, String, IfErr, IfNone, IfOk, IfSome, IsUtf8, OnOk, string_bytes}
use Rattle.std.specs.Global.{Global}
use Rattle.subst_language.specs.Language.Answer.{Answer}
use Rattle.subst_language.specs.Language.Several.{GivesBy, RefusesFirst}
use Rattle.subst_document.specs.Stays.{SomeChanges}
use Rattle.subst_document.specs.Texts.{HasRange}
use Rattle.subst_yaml_reader.specs.Reading.{read}
use Rattle.subst_yaml.specs.Errors.{HasOwnMemory}
use Rattle.subst_yaml.specs.Filled.{strings_in, AreFilled}
use Rattle.subst_yaml.specs.Outcome.{ReadsAs, IfYaml, IsInside, OnSubst}
use Rattle.subst_yaml.specs.declared.error.Error.{Error}
use Rattle.subst_yaml.specs.declared.error.Fault.{Fault}
use Rattle.subst_yaml.specs.declared.error.Reason.{Reason}
use Rattle.subst_yaml.specs.declared.error.Reason.TheVariants.{InvalidUtf8, Reader}

-- The output is read as the source with its values filled in, and all bytes outside of its scalars are kept.
-- `ask` relates a string to its answers.
abbrev pub IsFilledDocument : (ask : List ℕ → Answer → Type 0) → (source output : List ℕ) → Type 0
IsFilledDocument ask source output =
    ReadsAs source (λ es. ReadsAs output (λ fs. AreFilled ask source output 0 0 es fs))

-- the reason of a refusal is true of the source: the source isn't UTF-8, or the reader refuses it
abbrev pub holds : (source : List ℕ) → Reason → Type 0
holds source InvalidUtf8 = ¬ (IsUtf8 source)
holds source (Reader reason) = read source ≡ None

-- the reason of a fault is true of the source
abbrev pub Holds : (source : List ℕ) → Fault → Type 0
Holds source fault = holds source fault.reason

-- The result of filling in the text `source`; `ask` relates a string to its answers.
pub record FillsIn (ask : List ℕ → Answer → Type 0) (source : List ℕ)
    (result : Result (Option (String Global)) Error) : Type 0 where
  pub output : IfOk result (λ output. IfSome output
      (λ output. IsFilledDocument ask source (string_bytes output)))
  -- `None`, for an output that isn't confirmed, is returned only if some string changes
  pub unconfirmed : IfOk result (λ output. IfNone output
      (ReadsAs source (λ es. SomeChanges (GivesBy ask) (strings_in source es))))
  pub yaml : IfYaml result (Holds source)
  pub inside : IfYaml result (λ fault. IsInside fault.span source)
  pub subst : OnSubst result (λ f. ReadsAs source (λ es. RefusesFirst ask (strings_in source es) f))
  pub range : OnSubst result HasRange
  -- `Subst` never states that memory ran out
  pub memory : IfErr result HasOwnMemory

-- The result of filling in the bytes `source`: as for a text, if they are UTF-8. Otherwise neither an output
-- nor the fault of a string is returned.
pub record FillsInBytes (ask : List ℕ → Answer → Type 0) (source : List ℕ)
    (result : Result (Option (String Global)) Error) : Type 0 where
  pub text : IsUtf8 source → FillsIn ask source result
  pub utf8 : OnOk result (IsUtf8 source)
  pub yaml : IfYaml result (Holds source)
  pub inside : IfYaml result (λ fault. IsInside fault.span source)
  pub refused_utf8 : OnSubst result (λ f. IsUtf8 source)
  pub memory : IfErr result HasOwnMemory
