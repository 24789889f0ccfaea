-- The output of a text in the syntax of Docker Compose.
use Rattle.std.specs.Prelude.{◌≡◌, ℕ, true, false, List, [], Err, IfSome}
use Rattle.subst.specs.ErrorFault.{error_fault}
use Rattle.subst.specs.Fault.{Fault, NoSuchVariable}
use Rattle.subst.specs.Foreign.{Given}
use Rattle.subst.specs.Grammar.{Grammar, grammar}
use Rattle.subst.specs.Language.LookUp.{LookUp}
use Rattle.subst.specs.Reading.{IsRefusalOf}
use Rattle.subst.specs.Template.{without_question}
use Rattle.subst.specs.Text as text
use Rattle.subst.specs.Styles.forms.{Shell}
use Rattle.subst.specs.Styles.missing.{Nothing}
use Rattle.subst_uses.specs.declared.compose.ComposeError.{ComposeError}
use Rattle.subst_uses.specs.declared.compose.ComposeError.TheVariants.{Text, Variable}

-- the grammar of a shell's forms, with all names chosen
abbrev pub compose : Grammar
compose = grammar Shell true (λ operated name. Unit {0})

-- the text s is read as items whose value under the look-up is `given`
abbrev pub IsValueOf : LookUp → (s : List ℕ) → Given → Type 0
IsValueOf look s given = (items : text.Text) × text.IsText compose false items [] × (s ≡ text.spelling items)
    × (text.text_value Shell Nothing items look ≡ given)

-- the fault states the missing variable of the text s; in the fault, as in the template for a `ShellMap`, a
-- digit can precede the variable's name
abbrev pub IsMissingOf : LookUp → (s : List ℕ) → Fault → Type 0
IsMissingOf look s f = (position : ℕ) × (name : List ℕ) × (f ≡ NoSuchVariable position name)
    × IsValueOf look s (Err (without_question name))

-- the error states the first refused form of the text s, or the missing variable of s
abbrev pub IsFaultOf : LookUp → (s : List ℕ) → ComposeError → Type 0
IsFaultOf look s (Text e) = IsRefusalOf compose s e
IsFaultOf look s (Variable e) = IfSome (error_fault e) (IsMissingOf look s)
