-- The reading of a text, token by token from the left, and its refused forms.
use Rattle.std.specs.List.{AllByRecursion}
use Rattle.std.specs.Str.{IsUtf8}
use Rattle.std.specs.Prelude.{◌≡◌, ◌≢◌, ◌==◌, ◌||◌, ◌+◌, ◌<◌, ℕ, Bool, true, false, zero, suc, List, [], ◌∷◌, ◌++◌, length, map, Option, Some, None, IsTrue}
use Rattle.subst_foreign.specs.Foreign.{IsShellName, is_inside}
use Rattle.subst_foreign.specs.Grammar.{Grammar, grammar, Head, Dollar, Short, Braced, Optional, Opened, head_text, in_braces, operator_text, takes_message, IsHead, IsMessage, IsNoBrace, IsRefused}
use Rattle.subst_foreign.specs.Template.{is_escaped, item_of_byte, item_of_head, template_name, IsTemplate}
use Rattle.subst_foreign.specs.Text.{Variable, IsByte, IsWhole}
use Rattle.subst_foreign.specs.declared.forms.Forms.{Forms}
use Rattle.subst_foreign.specs.declared.forms.Forms.TheVariants as of
use Rattle.subst_foreign.specs.declared.forms.Missing.{Missing}
use Rattle.subst_foreign.specs.declared.forms.Operator.{Operator}
use Rattle.subst_foreign.specs.declared.style.Style.{Style}
use Rattle.subst_foreign.specs.declared.variables.TextVariable.{TextVariable as SeenVariable}
use Rattle.subst_foreign.specs.declared.token.Token.{Token as SeenToken}
use Rattle.subst_foreign.specs.declared.token.Token.TheVariants as seen
use Rattle.subst_foreign.specs.declared.refused.FormAt.{FormAt}
use Rattle.subst_foreign.specs.declared.refused.ShellForm.{ShellForm}
use Rattle.subst_foreign.specs.declared.refused.TextError.{TextError}
use Rattle.subst_foreign.specs.declared.refused.TextError.TheVariants as error
use Rattle.subst_foreign.specs.declared.refused.ShellForm.TheVariants as form
use Rattle.subst_language.specs.Language.Bytes.{dollar, colon, backslash, opening_brace, closing_brace}
use Rattle.subst_language.specs.Language.Name.{IsName, IsNameByte, BeginsWithNo}
use Rattle.subst_language.specs.Language.Tree.{item_text}

-- the grammar of a style; `all` and `Has` map `style.names` to the choice of names
abbrev pub grammar_of : {N : Type 0} → (N → Bool) → (N → Bool → List ℕ → Type 0) → Style N → Grammar
grammar_of all Has style = grammar style.forms (all style.names.now) (Has style.names.now)

-- A token of a text: a byte, a whole head, a name with its operator and perhaps a message, a brace inside a
-- default, or a refused form's beginning.
pub data Token : Type 0 where
  Byte : ℕ → Token
  Whole : Head → Token
  Opens : (name : List ℕ) → Operator → Token
  Required : (name : List ℕ) → Operator → (message : List ℕ) → Token
  Opening : Token
  Closing : Token
  Refused : ShellForm → (front : List ℕ) → Token

-- the spelling of a token
abbrev pub token_text : Token → List ℕ
token_text (Byte b) = b ∷ []
token_text (Whole head) = head_text head
token_text (Opens n op) = head_text (Opened n op)
token_text (Required n op m) = head_text (Opened n op) ++ (m ++ closing_brace ∷ [])
token_text Opening = opening_brace ∷ []
token_text Closing = closing_brace ∷ []
token_text (Refused form front) = front

-- reading skips `front`, the beginning of a refused form, and resumes at x; `front` is a dollar, an opening
-- brace, `${`, or `${` and a name; for `Unclosed`, `front` is the whole rest of the text
abbrev pub IsFront : ShellForm → (front x : List ℕ) → Type 0
IsFront form.Dollar front x = front ≡ dollar ∷ []
IsFront form.Brace front x = front ≡ opening_brace ∷ []
IsFront form.NoName front x = front ≡ dollar ∷ opening_brace ∷ []
IsFront form.Unclosed front x = x ≡ []
IsFront _ front x = (n : List ℕ) × IsName n × BeginsWithNo IsNameByte x × (front ≡ in_braces n [])

-- the text at which reading resumes after a refused message: the empty text if the message never closes, or
-- else `after`, which follows the name
abbrev pub after_message : ShellForm → List ℕ → List ℕ
after_message form.Unclosed after = []
after_message _ after = after

-- The token, with the text x after it, belongs to the grammar at this depth.
abbrev pub IsToken : Grammar → (depth : ℕ) → Token → (x : List ℕ) → Type 0
IsToken g depth (Byte b) x = IsByte g (is_inside depth) b x
IsToken g depth (Whole head) x = IsWhole head × IsHead g head x
IsToken g depth (Opens n op) x = (takes_message op ≡ false) × IsHead g (Opened n op) x
IsToken g depth (Required n op m) x = (takes_message op ≡ true)
    × IsHead g (Opened n op) (m ++ closing_brace ∷ x) × IsMessage g.forms m
IsToken g depth Opening x = (0 < depth) × (g.forms ≡ of.Shell)
IsToken g depth Closing x = 0 < depth
IsToken g depth (Refused form front) x =
    IsRefused g (is_inside depth) form (front ++ x) × IsFront form front x

-- the depth after a token
abbrev pub depth_after : ℕ → Token → ℕ
depth_after depth (Opens n op) = suc depth
depth_after depth Opening = suc depth
depth_after (suc depth) Closing = depth
depth_after depth _ = depth

-- the refused form of a token at this position, as a list of one, or no form
abbrev pub refused_at : ℕ → Token → List FormAt
refused_at position (Refused form front) = record { position = position; form = form } ∷ []
refused_at position _ = []

-- the position of the outermost variable that is open after a token at `position`: `position` if the depth
-- before the token is 0, and otherwise still `outermost`
abbrev pub outermost_at : (depth outermost position : ℕ) → ℕ
outermost_at zero outermost position = position
outermost_at (suc depth) outermost position = outermost

-- The refused forms of the text s and their positions, in order. s begins at `position` of the whole text, at
-- depth `depth`. The outermost open variable begins at `outermost`. An unclosed variable comes last.
pub data Reading (g : Grammar) : (outermost position depth : ℕ) → (s : List ℕ) → List FormAt
    → Type 0 where
  ended : {outermost position : ℕ} → Reading g outermost position 0 [] []
  unclosed : {outermost position depth : ℕ}
      → Reading g outermost position (suc depth) []
      (record { position = outermost; form = form.Unclosed } ∷ [])
  token : {outermost position depth : ℕ} {refused : List FormAt} (t : Token) (x : List ℕ)
      → IsToken g depth t x
      → Reading g (outermost_at depth outermost position) (position + length (token_text t))
      (depth_after depth t) x refused
      → Reading g outermost position depth (token_text t ++ x) (refused_at position t ++ refused)

-- the spelling of a token in the template
abbrev pub part : Forms → Missing → Token → List ℕ
part forms unset (Byte b) = item_text (item_of_byte (is_escaped b) b)
part forms unset (Whole head) = item_text (item_of_head forms unset head)
part forms unset (Opens n op) = in_braces (template_name forms (Some op) n) (colon ∷ [])
part forms unset (Required n op m) = in_braces (template_name forms (Some op) n) (closing_brace ∷ [])
part forms unset Opening = opening_brace ∷ []
part forms unset Closing = closing_brace ∷ []
part forms unset (Refused form front) = []

-- a token of the code, converted to a token of these definitions; `front` is the spelling of a `Refused`
-- token
abbrev pub token_of : (front : List ℕ) → SeenToken → Token
token_of front (seen.Byte b) = Byte b
token_of front seen.Dollars = Whole Dollar
token_of front (seen.Short n) = Whole (Short n.now)
token_of front (seen.Braced n) = Whole (Braced n.now)
token_of front (seen.Optional n) = Whole (Optional n.now)
token_of front (seen.Opens n op) = Opens n.now op
token_of front (seen.Required n op m) = Required n.now op m.now
token_of front seen.Opening = Opening
token_of front seen.Closing = Closing
token_of front (seen.Refused form) = Refused form front

-- The text begins with this token at this depth, and x follows it.
pub record IsStep (g : Grammar) (depth : ℕ) (s : List ℕ) (token : SeenToken) (x : List ℕ) : Type 0 where
  pub front : List ℕ
  pub is : IsToken g depth (token_of front token) x
  pub taken : s ≡ token_text (token_of front token) ++ x

-- a byte that is plain at this depth: it is the same in the template
abbrev pub IsPlainAt : ℕ → ℕ → Type 0
IsPlainAt depth b = (b ≢ dollar) × (b ≢ backslash) × (IsTrue (is_inside depth) → IsNoBrace b)

-- the text s is plain bytes followed by x
abbrev pub IsAfterPlain : (depth : ℕ) → (s x : List ℕ) → Type 0
IsAfterPlain depth s x = (run : List ℕ) × AllByRecursion (IsPlainAt depth) run × (s ≡ run ++ x)

-- the byte is a dollar, a backslash or a brace
abbrev pub is_special_inside : ℕ → Bool
is_special_inside b = b == dollar || b == backslash || b == opening_brace || b == closing_brace

-- the refused form at the end of a text: the unclosed variable at `outermost` if the depth isn't 0, and
-- otherwise none
abbrev pub left_open : (depth outermost : ℕ) → List FormAt
left_open zero outermost = []
left_open (suc depth) outermost = record { position = outermost; form = form.Unclosed } ∷ []

-- `refused` are the refused forms of the whole text s, in order
abbrev pub IsReading : Grammar → List ℕ → List FormAt → Type 0
IsReading g s refused = Reading g 0 0 0 s refused

-- the error is the first refused form of the text, or out of memory
abbrev pub IsRefusalOf : Grammar → List ℕ → TextError → Type 0
IsRefusalOf g s (error.Refused first) = (others : List FormAt) × IsReading g s (first ∷ others)
IsRefusalOf g s (error.OutOfMemory e) = Unit {0}

-- The text s was converted, and `refused` are its refused forms. If there are none, `source` is a template
-- for s, and UTF-8 if s is.
pub record IsConverted (g : Grammar) (unset : Missing) (s source : List ℕ) (refused : List FormAt)
    : Type 0 where
  pub read : IsReading g s refused
  pub template : refused ≡ [] → IsTemplate g unset s source
  pub is_text : refused ≡ [] → IsUtf8 s → IsUtf8 source

-- the token is that of the byte b inside a default; b is any byte but a dollar
abbrev pub IsInner : Forms → ℕ → SeenToken → Type 0
IsInner forms b (seen.Byte c) = (c ≡ b) × IsNoBrace b
IsInner forms b seen.Opening = (b ≡ opening_brace) × (forms ≡ of.Shell)
IsInner forms b seen.Closing = b ≡ closing_brace
IsInner forms b (seen.Refused f) = (b ≡ opening_brace) × (forms ≢ of.Shell) × (f ≡ form.Brace)
IsInner forms b _ = ⊥

-- The token of a dollar that begins no variable. The name bytes n follow the dollar. In common forms the
-- dollar is refused, unless n is a name that doesn't begin with a digit.
abbrev pub IsLone : Forms → List ℕ → SeenToken → Type 0
IsLone forms n (seen.Byte b) = (b ≡ dollar) × (forms ≡ of.Common → IsName n × IsShellName n)
IsLone forms n (seen.Refused f) = (forms ≡ of.Common) × (f ≡ form.Dollar) × (¬ (IsName n × IsShellName n))
IsLone forms n _ = ⊥

-- a variable of a text: the position of its name, the name, and its operator and message, if any
pub record VariableAt : Type 0 where
  pub position : ℕ
  pub name : List ℕ
  pub operator : Option Operator
  pub message : List ℕ

-- the variable without its position and its message
abbrev pub without_place : VariableAt → Variable
without_place v = record { name = v.name; operator = v.operator }

-- the variable of a token at position p, as a list of one, or no variable
abbrev pub listed_at : ℕ → Token → List VariableAt
listed_at p (Whole (Short n)) = record { position = p + 1; name = n; operator = None; message = [] } ∷ []
listed_at p (Whole (Braced n)) = record { position = p + 2; name = n; operator = None; message = [] } ∷ []
listed_at p (Whole (Optional n)) = record { position = p + 2; name = n; operator = None; message = [] } ∷ []
listed_at p (Opens n op) = record { position = p + 2; name = n; operator = Some op; message = [] } ∷ []
listed_at p (Required n op m) = record { position = p + 2; name = n; operator = Some op; message = m } ∷ []
listed_at p _ = []

-- The variables of the text s, in order. s begins at `position` of the whole text, at this depth.
pub data Listing (g : Grammar) : (position depth : ℕ) → (s : List ℕ) → List VariableAt → Type 0 where
  ended : {position depth : ℕ} → Listing g position depth [] []
  token : {position depth : ℕ} {variables : List VariableAt} (t : Token) (x : List ℕ) → IsToken g depth t x
      → Listing g (position + length (token_text t)) (depth_after depth t) x variables
      → Listing g position depth (token_text t ++ x) (listed_at position t ++ variables)

-- a `TextVariable` of the code, as contracts see it, converted to a `VariableAt` of these definitions
abbrev pub variable_of : SeenVariable → VariableAt
variable_of v =
    record { position = v.position; name = v.name.now; operator = v.operator; message = v.message.now }

-- `variables` are the variables of the whole text s, in order
abbrev pub IsListing : Grammar → List ℕ → List SeenVariable → Type 0
IsListing g s variables = Listing g 0 0 s (map variable_of variables)

-- the spelling of an operator, if there is one
abbrev pub written_operator : Option Operator → List ℕ
written_operator None = []
written_operator (Some op) = operator_text op

-- the position after a variable's name and, if present, its operator and message
abbrev pub end_of : VariableAt → ℕ
end_of v = v.position + length v.name + length (written_operator v.operator) + length v.message
