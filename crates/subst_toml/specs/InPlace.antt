-- The results of calls that fill in a document in place, or list its strings.
use Rattle.std.specs.Prelude.{◌≡◌, ⊤, ℕ, List, Option, None, Result, String, Vec, IfErr, IfNone, IfOk, IfSome, string_bytes}
use Rattle.std.specs.Global.{Global}
use Rattle.toml.specs.Errors.{IsWithin}
use Rattle.toml.specs.Parse.{parse_document}
use Rattle.subst_language.specs.Language.Answer.{Answer}
use Rattle.subst_language.specs.Language.Several.{GivesBy, RefusesFirst}
use Rattle.subst_document.specs.Stays.{SomeChanges}
use Rattle.subst_document.specs.Texts.{HasRange}
use Rattle.subst_toml.specs.Errors.{HasOwnMemory}
use Rattle.subst_toml.specs.Filled.{IsFilledOrSame}
use Rattle.subst_toml.specs.Mapped.{strings, IsEach}
use Rattle.subst_toml.specs.Outcome.{ReadsAsTree, IfToml, OnToml, OnSubst, StatesUtf8}
use Rattle.subst_toml.specs.declared.error.Error.{Error}

-- `output` is the document `source`, filled in: `Becomes` relates each string to its new value.
pub record IsFilledDocument (Becomes : List ℕ → List ℕ → Type 0) (source output : List ℕ) : Type 0 where
  -- the output is read as the source's tree with its strings filled in
  pub mapped : ReadsAsTree source (λ d. ReadsAsTree output (IsEach Becomes d))
  -- everything is kept except the strings that change
  pub kept : IsFilledOrSame Becomes source output

-- The result of filling in a document. `ask` relates a string to its answers.
pub record FillsIn (ask : List ℕ → Answer → Type 0) (source : List ℕ)
    (result : Result (Option (String Global)) Error) : Type 0 where
  pub output : IfOk result (λ output. IfSome output
      (λ output. IsFilledDocument (GivesBy ask) source (string_bytes output)))
  -- `None` (no output is confirmed) is returned only if some string changes
  pub unconfirmed : IfOk result (λ output. IfNone output
      (ReadsAsTree source (λ d. SomeChanges (GivesBy ask) (strings d))))
  pub utf8 : StatesUtf8 source result
  pub toml : OnToml result (parse_document source ≡ None)
  pub span : IfToml result (IsWithin source)
  pub subst : OnSubst result (λ f. ReadsAsTree source (λ d. RefusesFirst ask (strings d) f))
  pub range : OnSubst result HasRange
  -- a failure to allocate is `OutOfMemory`, never `Toml` or `Subst`
  pub memory : IfErr result HasOwnMemory

-- The result of listing strings of a document: `Are` holds for the list.
pub record Lists {T : Type 0} (Are : List T → Type 0) (source : List ℕ)
    (result : Result (Option (Vec T Global)) Error) : Type 0 where
  pub list : IfOk result (λ list. IfSome list (λ list. Are list.items))
  pub is_toml : IfOk result (λ _. ReadsAsTree source (λ _. ⊤))
  pub toml : OnToml result (parse_document source ≡ None)
  pub span : IfToml result (IsWithin source)
  pub subst : OnSubst result (λ _. ⊥)
  pub memory : IfErr result HasOwnMemory
