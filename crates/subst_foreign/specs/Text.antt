-- Texts of other tools, and the value of each under a look-up.
use Rattle.std.specs.Prelude.{◌≡◌, ℕ, Bool, true, false, List, [], ◌∷◌, ◌++◌, Option, Some, None, Ok, IsTrue, unwrap_or}
use Rattle.subst_foreign.specs.Foreign.{Given, and_then, found}
use Rattle.subst_foreign.specs.Grammar.{Grammar, Head, Short, Braced, Optional, Opened, head_text, takes_message, IsHead, IsMessage, IsNoBrace, IsRefused, BeginsWithNoHead}
use Rattle.subst_foreign.specs.declared.forms.Forms.{Forms}
use Rattle.subst_foreign.specs.declared.forms.Forms.TheVariants as of
use Rattle.subst_foreign.specs.declared.forms.Missing.{Missing}
use Rattle.subst_foreign.specs.declared.forms.Missing.TheVariants as missing
use Rattle.subst_foreign.specs.declared.forms.Operator.{Operator}
use Rattle.subst_foreign.specs.declared.forms.Operator.TheVariants as operator
use Rattle.subst_foreign.specs.declared.refused.ShellForm.{ShellForm}
use Rattle.subst_language.specs.Language.Bytes.{dollar, opening_brace, closing_brace}
use Rattle.subst_language.specs.Language.LookUp.{LookUp}
use Rattle.subst_language.specs.Maps.{without_empty}

-- A text is a list of items; so is the text after an operator.
mutual
  pub data Item : Type 0 where
    -- a literal byte
    Byte : ℕ → Item
    -- a whole head: two dollars, or a variable without an operator
    Whole : Head → Item
    -- a variable with an operator and the text after the operator
    Operated : (name : List ℕ) → Operator → Text → Item
    -- a variable with an operator and its message
    Required : (name : List ℕ) → Operator → (message : List ℕ) → Item
    -- a text in braces, inside the text after an operator
    Group : Text → Item

  pub data Text : Type 0 where
    Empty : Text
    Then : Item → Text → Text

abbrev mutual
  -- The spelling of an item: a byte, `$$`, a variable such as `$name` or `${name}`, or `{text}`. With an
  -- operator, the spelling includes the text or message after the operator, as in `${name:-text}` or
  -- `${name:?message}`.
  pub item_spelling : Item → List ℕ
  item_spelling (Byte b) = b ∷ []
  item_spelling (Whole head) = head_text head
  item_spelling (Operated n op t) = head_text (Opened n op) ++ (spelling t ++ closing_brace ∷ [])
  item_spelling (Required n op m) = head_text (Opened n op) ++ (m ++ closing_brace ∷ [])
  item_spelling (Group t) = opening_brace ∷ spelling t ++ closing_brace ∷ []

  -- the spelling of a text: the spellings of its items, concatenated
  pub spelling : Text → List ℕ
  spelling Empty = []
  spelling (Then item rest) = item_spelling item ++ spelling rest

-- b is a literal byte before the text x: no head begins at b, no form is refused there, and in a default b
-- isn't a brace
pub record IsByte (g : Grammar) (inside : Bool) (b : ℕ) (x : List ℕ) : Type 0 where
  pub no_head : BeginsWithNoHead g (b ∷ x)
  pub taken : (form : ShellForm) → ¬ (IsRefused g inside form (b ∷ x))
  pub no_brace : IsTrue inside → IsNoBrace b

-- the head is complete: it doesn't end in an operator, so it needs no text or message
abbrev pub IsWhole : Head → Type 0
IsWhole (Opened n op) = ⊥
IsWhole head = Unit {0}

abbrev mutual
  -- the grammar allows this item before the text x; `inside` is whether the item is in a default
  pub IsItem : Grammar → (inside : Bool) → Item → (x : List ℕ) → Type 0
  IsItem g inside (Byte b) x = IsByte g inside b x
  IsItem g inside (Whole head) x = IsWhole head × IsHead g head x
  IsItem g inside (Operated n op t) x = (takes_message op ≡ false)
      × IsHead g (Opened n op) (spelling t ++ closing_brace ∷ x) × IsText g true t (closing_brace ∷ x)
  IsItem g inside (Required n op m) x = (takes_message op ≡ true)
      × IsHead g (Opened n op) (m ++ closing_brace ∷ x) × IsMessage g.forms m
  IsItem g inside (Group t) x = IsTrue inside × (g.forms ≡ of.Shell) × IsText g true t (closing_brace ∷ x)

  -- the grammar allows a text of these items before the text x; `inside` is whether the items are in a
  -- default
  pub IsText : Grammar → (inside : Bool) → Text → (x : List ℕ) → Type 0
  IsText g inside Empty x = Unit {0}
  IsText g inside (Then item rest) x = IsItem g inside item (spelling rest ++ x) × IsText g inside rest x

-- the value that was found, or else v
abbrev pub found_or : Option (List ℕ) → Given → Given
found_or (Some x) v = Ok x
found_or None v = v

-- v if a value was found, or else the empty value
abbrev pub if_found : Option (List ℕ) → Given → Given
if_found (Some x) v = v
if_found None v = Ok []

-- the value of a variable without an operator; an unset one is missing if `unset` is `Fault` and the forms
-- aren't `Common`, and empty otherwise
abbrev pub plain_value : Forms → Missing → LookUp → List ℕ → Given
plain_value of.Common unset look n = Ok (unwrap_or (look n) [])
plain_value _ missing.Fault look n = found (look n) n
plain_value _ missing.Nothing look n = Ok (unwrap_or (look n) [])

-- the value of the variable n with an operator; v is the value of the text after the operator
abbrev pub operated_value : Operator → LookUp → List ℕ → Given → Given
operated_value operator.ColonMinus look n v = found_or (without_empty look n) v
operated_value operator.Plus look n v = if_found (look n) v
operated_value operator.ColonPlus look n v = if_found (without_empty look n) v
operated_value _ look n v = found_or (look n) v

-- the value of the variable n with an operator and a message, or else the missing name n
abbrev pub required_value : Operator → LookUp → List ℕ → Given
required_value operator.ColonQuestion look n = found (without_empty look n) n
required_value _ look n = found (look n) n

-- the value of a whole head
abbrev pub head_value : Forms → Missing → Head → LookUp → Given
head_value forms unset (Short n) look = plain_value forms unset look n
head_value forms unset (Braced n) look = plain_value forms unset look n
head_value forms unset (Optional n) look = Ok (unwrap_or (look n) [])
head_value forms unset _ look = Ok (dollar ∷ [])

abbrev mutual
  -- the value of an item under a look-up
  pub item_value : Forms → Missing → Item → LookUp → Given
  item_value forms unset (Byte b) look = Ok (b ∷ [])
  item_value forms unset (Whole head) look = head_value forms unset head look
  item_value forms unset (Operated n op t) look = operated_value op look n (text_value forms unset t look)
  item_value forms unset (Required n op m) look = required_value op look n
  item_value forms unset (Group t) look =
      and_then (Ok (opening_brace ∷ [])) (and_then (text_value forms unset t look) (Ok (closing_brace ∷ [])))

  -- the value of a text: the values of its items, concatenated, or the first missing name from the left
  pub text_value : Forms → Missing → Text → LookUp → Given
  text_value forms unset Empty look = Ok []
  text_value forms unset (Then item rest) look =
      and_then (item_value forms unset item look) (text_value forms unset rest look)

-- a variable of a text: its name, and its operator, if any
pub record Variable : Type 0 where
  pub name : List ℕ
  pub operator : Option Operator

abbrev mutual
  -- the variables of an item: its own, and those of the text inside it
  pub item_variables : Item → List Variable
  item_variables (Whole (Short n)) = record { name = n; operator = None } ∷ []
  item_variables (Whole (Braced n)) = record { name = n; operator = None } ∷ []
  item_variables (Whole (Optional n)) = record { name = n; operator = None } ∷ []
  item_variables (Operated n op t) = record { name = n; operator = Some op } ∷ variables_of t
  item_variables (Required n op m) = record { name = n; operator = Some op } ∷ []
  item_variables (Group t) = variables_of t
  item_variables _ = []

  -- the variables of a text, in order, including those in defaults
  pub variables_of : Text → List Variable
  variables_of Empty = []
  variables_of (Then item rest) = item_variables item ++ variables_of rest
