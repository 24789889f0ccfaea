-- The results of a loader of settings. `ask` relates a string to its answers.
use Rattle.std.specs.Prelude.{◌≡◌, ◌⊎◌, ℕ, List, None, IfSome, IsSome, string_bytes}
use Rattle.toml.specs.Data.{Data}
use Rattle.toml.specs.Errors.{IsWithin}
use Rattle.toml.specs.Parse.{parse_document}
use Rattle.toml.specs.View.{view}
use Rattle.toml.specs.declared.de.error.Error as reading
use Rattle.toml.specs.declared.value.Value.{Value}
use Rattle.subst.specs.ErrorFault.{error_fault}
use Rattle.subst.specs.Language.Answer.{Answer}
use Rattle.subst.specs.Language.Several.{GivesBy, RefusesFirst}
use Rattle.subst.specs.Toml.{Error}
use Rattle.subst.specs.Toml.error.{InvalidUtf8, Toml, Subst, OutOfMemory}
use Rattle.subst.specs.Toml.Mapped.{strings, IsEach}
use Rattle.subst.specs.Toml.Outcome.{ReadsAsTree}
use Rattle.subst.specs.Toml.Report.{Reports}
use Rattle.subst_uses.specs.declared.config.Loaded.{Loaded}
use Rattle.subst_uses.specs.declared.config.Loaded.TheVariants.{Configuration, Refused}

-- the text s is a TOML document, and none of its strings is refused
abbrev pub CanFillIn : (List ℕ → Answer → Type 0) → List ℕ → Type 0
CanFillIn ask s = ReadsAsTree s (λ d. (e : Data) × IsEach (GivesBy ask) d e)

-- the error is the reader's, for which `IsUnread` holds, or that of the first refused string of the text s
abbrev pub IsRefusal : (List ℕ → Answer → Type 0) → List ℕ → (reading.Error → Type 0) → Error → Type 0
IsRefusal ask s IsUnread (InvalidUtf8 e) = ⊥
IsRefusal ask s IsUnread (Toml e) = IsUnread e
IsRefusal ask s IsUnread (Subst e) = IsSome (error_fault e)
    × IfSome (error_fault e) (λ f. ReadsAsTree s (λ d. RefusesFirst ask (strings d) f))
IsRefusal ask s IsUnread (OutOfMemory e) = ⊥

-- the text s isn't a document, and the span of the reader's error is in s
abbrev pub IsUnreadIn : List ℕ → reading.Error → Type 0
IsUnreadIn s e = (parse_document s ≡ None) × IsWithin s e

-- The settings are the tree of the text s of a file, with its strings filled in. There is an error instead,
-- with its report, if s isn't a document, or if a string is refused.
abbrev pub AreLoaded : (List ℕ → Answer → Type 0) → (file s : List ℕ) → Loaded Value Error → Type 0
AreLoaded ask file s (Configuration tree) = ReadsAsTree s (λ d. IsEach (GivesBy ask) d (view tree))
AreLoaded ask file s (Refused e report) =
    IsRefusal ask s (IsUnreadIn s) e × Reports ask file s e (string_bytes report)

-- There are settings of the text s of a file only if s is a document and no string is refused. There is an
-- error with its report otherwise, and also if the filled-in tree doesn't fit the type.
abbrev pub AreLoadedAs : {T : Type 0} → (List ℕ → Answer → Type 0) → (file s : List ℕ) → Loaded T Error → Type 0
AreLoadedAs ask file s (Configuration value) = CanFillIn ask s
AreLoadedAs ask file s (Refused e report) =
    IsRefusal ask s (λ e. IsUnreadIn s e ⊎ CanFillIn ask s) e × Reports ask file s e (string_bytes report)
