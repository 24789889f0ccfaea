-- Results for a document that was read, stated for its text.
use Rattle.std.proofs.Common.{◌≡◌, ℕ, List, Some, Result, Ok, Err, IfSome, IsErrAnd, subst, sym}
use Rattle.toml.specs.Data.{Members, table}
use Rattle.toml.specs.Parse.{parse_document}
use Rattle.toml.specs.declared.de.error.Error as reading
use Rattle.std.proofs.lemmas.Option.{IfSome_then}
use Rattle.subst_error.specs.ErrorFault.{error_fault}
use Rattle.subst_error.specs.declared.Error as substituting
use Rattle.subst_language.specs.Language.Answer.{Answer}
use Rattle.subst_language.specs.Language.Several.{GivesBy, RefusesFirst}
use Rattle.subst_toml.specs.Errors.{IsOfReader, IsOfSubstitution}
use Rattle.subst_toml.specs.Mapped.{strings, strings_of_members, IsEach}
use Rattle.subst_toml.specs.Outcome.{ReadsAsTree, IsPrinted, IsReadFilledIn, IfToml, OnSubst}
use Rattle.subst_toml.specs.declared.error.Error.{Error}
use Rattle.subst_toml.specs.declared.error.Error.TheVariants.{InvalidUtf8, Toml, Subst, OutOfMemory}

-- the refused string is one of the text's tree
pub refused_as_read : {T : Type 0} (ask : List ℕ → Answer → Type 0) (text : List ℕ) (ms : Members)
    (e : substituting.Error) (result : Result T Error) → parse_document text ≡ Some ms
    → IsErrAnd result (IsOfSubstitution e)
    → IfSome (error_fault e) (RefusesFirst ask (strings_of_members ms))
    → OnSubst result (λ f. ReadsAsTree text (λ d. RefusesFirst ask (strings d) f))
refused_as_read ask text ms e (Ok value) is of h = tt
refused_as_read ask text ms e (Err (InvalidUtf8 d)) is of h = tt
refused_as_read ask text ms e (Err (Toml d)) is of h = tt
refused_as_read ask text ms e (Err (Subst d)) is of h =
    rw of.0 (IfSome_then (error_fault e) h (λ f refused. (ms, is, refused)))
refused_as_read ask text ms e (Err (OutOfMemory d)) is of h = tt

-- a conversion from the printed, filled-in table is one from the source's filled-in tree
pub read_from_printed : {T : Type 0} (ask : List ℕ → Answer → Type 0) (source : List ℕ) (ns : Members)
    (printed text : List ℕ) (Reads : List ℕ → Result T reading.Error → Type 0)
    (result : Result T reading.Error)
    → ReadsAsTree source (λ d. IsEach (GivesBy ask) d (table ns)) → IsPrinted ns printed → text ≡ printed
    → Reads text result → ReadsAsTree source (λ d. IsReadFilledIn ask Reads d result)
read_from_printed ask source ns printed text Reads result (ms, is, each) shown same reads =
    (ms, is, (ns, each, (text, subst (λ bs. IsPrinted ns bs) (sym same) shown, reads)))

-- a property of the error of the conversion holds for the inner error
pub type_refused : {T : Type 0} (e : reading.Error) (result : Result T Error) (P : reading.Error → Type 0)
    → IsErrAnd result (IsOfReader e) → P e → IfToml result P
type_refused e (Ok value) P of h = tt
type_refused e (Err (InvalidUtf8 d)) P of h = tt
type_refused e (Err (Toml d)) P of h = subst P (sym of.0) h
type_refused e (Err (Subst d)) P of h = tt
type_refused e (Err (OutOfMemory d)) P of h = tt
