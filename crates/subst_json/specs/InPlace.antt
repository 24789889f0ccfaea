-- The results of calls that fill in a JSON text in place, or list its strings.
use Rattle.std.specs.Prelude.{◌≡◌, ⊤, ℕ, List, Option, None, Result, String, Vec, IfErr, IfNone, IfOk, IfSome, IsUtf8, OnOk, string_bytes}
use Rattle.std.specs.Global.{Global}
use Rattle.json.specs.Lex.{tokens}
use Rattle.serde_json.specs.Errors.{IsOfText}
use Rattle.serde_json.specs.Read.{read}
use Rattle.subst_language.specs.Language.Answer.{Answer}
use Rattle.subst_language.specs.Language.Several.{GivesBy, RefusesFirst}
use Rattle.subst_document.specs.Stays.{SomeChanges}
use Rattle.subst_document.specs.Texts.{HasRange}
use Rattle.subst_json.specs.Errors.{HasOwnMemory}
use Rattle.subst_json.specs.Filled.{strings_in, IsFilledJson}
use Rattle.subst_json.specs.Mapped.{IsEach}
use Rattle.subst_json.specs.Outcome.{ReadsAsTree, IfJson, OnJson, OnSubst}
use Rattle.subst_json.specs.declared.error.Error.{Error}

-- `output` is the document `source`, filled in: `Becomes` relates each string to its new value.
pub record IsFilledDocument (Becomes : List ℕ → List ℕ → Type 0) (source output : List ℕ) : Type 0 where
  -- the output is read as the source's tree with its strings filled in
  pub mapped : ReadsAsTree source (λ d. ReadsAsTree output (IsEach Becomes d))
  -- everything is kept except the strings that change
  pub kept : IsFilledJson Becomes source output

-- The result of filling in a text. `ask` relates a string to its answers.
pub record FillsIn (ask : List ℕ → Answer → Type 0) (source : List ℕ)
    (result : Result (Option (String Global)) Error) : Type 0 where
  pub output : IfOk result (λ output. IfSome output
      (λ output. IsFilledDocument (GivesBy ask) source (string_bytes output)))
  -- `None` is returned only if some string changes
  pub unconfirmed : IfOk result (λ output. IfNone output
      (ReadsAsTree source (λ _. SomeChanges (GivesBy ask) (strings_in (tokens source)))))
  pub json : OnJson result (read source ≡ None)
  -- a `Json` error is about the text, and never about a type that the tree doesn't fit
  pub kind : IfJson result IsOfText
  pub subst : OnSubst result
      (λ f. ReadsAsTree source (λ _. RefusesFirst ask (strings_in (tokens source)) f))
  pub range : OnSubst result HasRange
  -- neither `Json` nor `Subst` states that memory ran out
  pub memory : IfErr result HasOwnMemory

-- The result of filling in bytes. If the bytes are UTF-8, it is the result for a text. Otherwise no string is
-- filled in or refused.
pub record FillsInBytes (ask : List ℕ → Answer → Type 0) (source : List ℕ)
    (result : Result (Option (String Global)) Error) : Type 0 where
  pub text : IsUtf8 source → FillsIn ask source result
  pub utf8 : OnOk result (IsUtf8 source)
  pub refused_utf8 : OnSubst result (λ f. IsUtf8 source)
  pub kind : IfJson result IsOfText
  pub memory : IfErr result HasOwnMemory

-- The result of listing strings of a text: `Are` holds for the list.
pub record Lists {T : Type 0} (Are : List T → Type 0) (source : List ℕ)
    (result : Result (Option (Vec T Global)) Error) : Type 0 where
  pub list : IfOk result (λ list. IfSome list (λ list. Are list.items))
  pub is_json : IfOk result (λ _. ReadsAsTree source (λ _. ⊤))
  pub json : OnJson result (read source ≡ None)
  pub kind : IfJson result IsOfText
  pub subst : OnSubst result (λ _. ⊥)
  pub memory : IfErr result HasOwnMemory
