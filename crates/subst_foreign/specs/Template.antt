-- Templates for texts of other tools: the conversion of a text's items and names, and the values of the
-- templates.
use Rattle.std.specs.Prelude.{◌≡◌, ◌==◌, ◌||◌, if◌then◌else◌, ℕ, Bool, true, false, List, [], ◌∷◌, Ok, Err, Option, Some, None, map}
use Rattle.std.specs.Char.{is_ascii_digit}
use Rattle.subst_foreign.specs.Foreign.{Given, unplaced}
use Rattle.subst_foreign.specs.Grammar.{Grammar, Head}
use Rattle.subst_foreign.specs.Grammar as head
use Rattle.subst_foreign.specs.Question.{by_question, value_of, is_missing, is_empty}
use Rattle.subst_foreign.specs.Text.{Text, Variable, IsText, spelling, text_value, variables_of}
use Rattle.subst_foreign.specs.Text as foreign
use Rattle.subst_foreign.specs.declared.forms.Forms.{Forms}
use Rattle.subst_foreign.specs.declared.forms.Forms.TheVariants as of
use Rattle.subst_foreign.specs.declared.forms.Missing.{Missing}
use Rattle.subst_foreign.specs.declared.forms.Missing.TheVariants as missing
use Rattle.subst_foreign.specs.declared.forms.Operator.{Operator}
use Rattle.subst_foreign.specs.declared.forms.Operator.TheVariants as operator
use Rattle.subst_language.specs.Language.Bytes.{dollar, backslash, opening_brace, closing_brace}
use Rattle.subst_language.specs.Language.Join.{join}
use Rattle.subst_language.specs.Language.LookUp.{LookUp}
use Rattle.subst_language.specs.Language.NamesIn.{names_in}
use Rattle.subst_language.specs.Language.Sentence.{Spells}
use Rattle.subst_language.specs.Language.Tree.{Item, Plain, Escaped, Short, Braced, Optional, Default, Tree, Empty, Then}
use Rattle.subst_language.specs.Language.Value.{value}
use Rattle.subst_language.specs.Maps.{without_empty}

-- whether a template has to escape the byte
abbrev pub is_escaped : ℕ → Bool
is_escaped b = b == dollar || b == backslash

-- the item of a byte, escaped or not
abbrev pub item_of_byte : Bool → ℕ → Item
item_of_byte true b = Escaped b
item_of_byte false b = Plain b

-- The name under which a template looks up the variable n, with an operator or without one. In a shell's
-- forms it begins with a digit, as a question to a `ShellMap`, except with the operators `:-` and `:?`.
abbrev pub template_name : Forms → Option Operator → List ℕ → List ℕ
template_name of.Shell None n = value_of ∷ n
template_name of.Shell (Some operator.Minus) n = value_of ∷ n
template_name of.Shell (Some operator.Question) n = value_of ∷ n
template_name of.Shell (Some operator.Plus) n = is_missing ∷ n
template_name of.Shell (Some operator.ColonPlus) n = is_empty ∷ n
template_name _ op n = n

-- the item of a name, in braces or not
abbrev pub item_of_name : (in_braces : Bool) → List ℕ → Item
item_of_name true n = Braced n
item_of_name false n = Short n

-- the template's item for the variable n without an operator; `item` spells the variable as the text does
abbrev pub plain_item : Forms → Missing → Item → List ℕ → Item
plain_item of.Common unset item n = Optional n
plain_item of.Shell missing.Fault item n = Braced (value_of ∷ n)
plain_item of.Shell missing.Nothing item n = Optional (value_of ∷ n)
plain_item _ missing.Fault item n = item
plain_item _ missing.Nothing item n = Optional n

-- the template's item for a whole head
abbrev pub item_of_head : Forms → Missing → Head → Item
item_of_head forms unset (head.Short n) = plain_item forms unset (Short n) n
item_of_head forms unset (head.Braced n) = plain_item forms unset (Braced n) n
item_of_head forms unset (head.Optional n) = Optional n
item_of_head forms unset _ = Escaped dollar

abbrev mutual
  -- the template's tree for an item of a text, followed by the tree `next` for the items after it
  pub tree_before : Forms → Missing → foreign.Item → Tree → Tree
  tree_before forms unset (foreign.Byte b) next = Then (item_of_byte (is_escaped b) b) next
  tree_before forms unset (foreign.Whole h) next = Then (item_of_head forms unset h) next
  tree_before forms unset (foreign.Operated n op t) next =
      Then (Default (template_name forms (Some op) n) (tree_of forms unset t)) next
  tree_before forms unset (foreign.Required n op m) next = Then (Braced (template_name forms (Some op) n)) next
  tree_before forms unset (foreign.Group t) next =
      Then (Plain opening_brace) (join (tree_of forms unset t) (Then (Plain closing_brace) next))

  -- the template's tree for a text
  pub tree_of : Forms → Missing → Text → Tree
  tree_of forms unset foreign.Empty = Empty
  tree_of forms unset (foreign.Then item rest) = tree_before forms unset item (tree_of forms unset rest)

-- the look-up with which a template for a text in these forms is expanded; `look` has the values of the
-- text's variables
abbrev pub seen_by : Forms → LookUp → LookUp
seen_by of.Shell look = by_question look
seen_by of.Common look = without_empty look
seen_by _ look = look

-- the name without its first byte if that is a digit, as in a question to a `ShellMap`
abbrev pub without_question : List ℕ → List ℕ
without_question [] = []
without_question (b ∷ n) = if is_ascii_digit b then n else b ∷ n

-- the variable's name in the text, from the name n under which the template looks it up
abbrev pub text_name : Forms → List ℕ → List ℕ
text_name of.Shell n = without_question n
text_name _ n = n

-- a template's value; a missing name is replaced by the variable's name in the text
abbrev pub renamed : Forms → Given → Given
renamed forms (Ok x) = Ok x
renamed forms (Err n) = Err (text_name forms n)

-- the name under which the template of a text looks up one of the text's variables
abbrev pub template_name_of : Forms → Variable → List ℕ
template_name_of forms variable = template_name forms variable.operator variable.name

-- `source` is a template for the text s. The text is read as items, and `source` is a sentence. Under each
-- look-up, s and `source` have the same value or missing name. They have the same variables, in the same
-- order.
pub record IsTemplate (g : Grammar) (unset : Missing) (s source : List ℕ) : Type 0 where
  pub items : Text
  pub read : IsText g false items []
  pub spelled : s ≡ spelling items
  pub tree : Tree
  pub spells : Spells tree source
  pub gives : (look : LookUp)
      → renamed g.forms (unplaced (value 0 tree (seen_by g.forms look))) ≡ text_value g.forms unset items look
  pub names : names_in tree ≡ map (template_name_of g.forms) (variables_of items)
