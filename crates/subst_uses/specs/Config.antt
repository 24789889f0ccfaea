-- The results of a loader of configurations. `ask` relates a string to its answers.
use Rattle.std.specs.Prelude.{◌≡◌, ◌⊎◌, ℕ, List, None, IfSome, IsSome, string_bytes}
use Rattle.serde_json.specs.Data.{Data}
use Rattle.serde_json.specs.Errors.{IsOfText}
use Rattle.serde_json.specs.Read.{read}
use Rattle.serde_json.specs.View.{view}
use Rattle.serde_json.specs.declared.error.Error as reading
use Rattle.serde_json.specs.declared.value.Value.{Value}
use Rattle.subst.specs.ErrorFault.{error_fault}
use Rattle.subst.specs.Json.{Error}
use Rattle.subst.specs.Json.error.{Json, Subst, OutOfMemory}
use Rattle.subst.specs.Json.Mapped.{strings, IsEach}
use Rattle.subst.specs.Json.Outcome.{ReadsAsTree}
use Rattle.subst.specs.Json.Report.{Reports}
use Rattle.subst.specs.Language.Answer.{Answer}
use Rattle.subst.specs.Language.Several.{GivesBy, RefusesFirst}
use Rattle.subst_uses.specs.declared.config.Loaded.{Loaded}
use Rattle.subst_uses.specs.declared.config.Loaded.TheVariants.{Configuration, Refused}

-- the text s is JSON, and none of its strings is refused
abbrev pub CanFillIn : (List ℕ → Answer → Type 0) → List ℕ → Type 0
CanFillIn ask s = ReadsAsTree s (λ d. (e : Data) × IsEach (GivesBy ask) d e)

-- the error is the reader's, for which `IsUnread` holds, or that of the first refused string of the text s
abbrev pub IsRefusal : (List ℕ → Answer → Type 0) → List ℕ → (reading.Error → Type 0) → Error → Type 0
IsRefusal ask s IsUnread (Json e) = IsUnread e
IsRefusal ask s IsUnread (Subst e) = IsSome (error_fault e)
    × IfSome (error_fault e) (λ f. ReadsAsTree s (λ d. RefusesFirst ask (strings d) f))
IsRefusal ask s IsUnread (OutOfMemory e) = ⊥

-- the text s isn't JSON, and the reader's error is about a text and not about a type
abbrev pub IsUnreadIn : List ℕ → reading.Error → Type 0
IsUnreadIn s e = (read s ≡ None) × IsOfText e

-- The configuration is the tree of the text s of a file, with its strings filled in. There is an error
-- instead, with its report, if s isn't JSON, or if a string is refused.
abbrev pub IsLoaded : (List ℕ → Answer → Type 0) → (file s : List ℕ) → Loaded Value Error → Type 0
IsLoaded ask file s (Configuration tree) = ReadsAsTree s (λ d. IsEach (GivesBy ask) d (view tree))
IsLoaded ask file s (Refused e report) =
    IsRefusal ask s (IsUnreadIn s) e × Reports ask file s e (string_bytes report)

-- There is a configuration of the text s of a file only if s is JSON and no string is refused. There is an
-- error with its report otherwise, and also if the filled-in tree doesn't fit the type.
abbrev pub IsLoadedAs : {T : Type 0} → (List ℕ → Answer → Type 0) → (file s : List ℕ) → Loaded T Error → Type 0
IsLoadedAs ask file s (Configuration value) = CanFillIn ask s
IsLoadedAs ask file s (Refused e report) =
    IsRefusal ask s (λ e. IsUnreadIn s e ⊎ CanFillIn ask s) e × Reports ask file s e (string_bytes report)
