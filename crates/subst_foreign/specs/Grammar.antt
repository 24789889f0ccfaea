-- The beginnings of variables, and the refused forms, in a text of another tool.
use Rattle.std.specs.Prelude.{◌≡◌, ◌≢◌, ◌⊎◌, ℕ, Bool, true, false, suc, List, [], ◌∷◌, ◌++◌, codes, IsTrue}
use Rattle.std.specs.List.{AllByRecursion}
use Rattle.subst_foreign.specs.Foreign.{IsShellName}
use Rattle.subst_foreign.specs.declared.forms.Forms.{Forms}
use Rattle.subst_foreign.specs.declared.forms.Forms.TheVariants as of
use Rattle.subst_foreign.specs.declared.forms.Operator.{Operator}
use Rattle.subst_foreign.specs.declared.forms.Operator.TheVariants as operator
use Rattle.subst_foreign.specs.declared.token.End.{End as SeenEnd}
use Rattle.subst_foreign.specs.declared.token.End.TheVariants as seen
use Rattle.subst_foreign.specs.declared.refused.ShellForm.{ShellForm}
use Rattle.subst_foreign.specs.declared.refused.ShellForm.TheVariants as form
use Rattle.subst_language.specs.Language.Bytes.{dollar, colon, question_mark, opening_brace, closing_brace}
use Rattle.subst_language.specs.Language.Name.{IsName, IsNameByte, BeginsWithNo}

-- A grammar of texts: the forms of variables, and the choice of names. If `all` is true, all names are
-- chosen. Otherwise, a name is chosen if `Has` holds for it. The choice may depend on whether an operator
-- follows the name.
pub record Grammar : Type 1 where
  pub forms : Forms
  pub all : Bool
  pub Has : (operated : Bool) → List ℕ → Type 0

-- the grammar with these forms and this choice
abbrev pub grammar : Forms → Bool → (Bool → List ℕ → Type 0) → Grammar
grammar forms all Has = record { forms = forms; all = all; Has = Has }

-- whether both hold: `$$` is a dollar, and a `${` that begins none of these forms is refused
abbrev pub is_whole : Forms → (all : Bool) → Bool
is_whole of.Shell all = all
is_whole of.Common all = true
is_whole _ all = false

-- n is a name in texts of these forms; unless the forms are `Own`, n doesn't begin with a digit
abbrev pub IsNameOf : Forms → List ℕ → Type 0
IsNameOf of.Own n = IsName n
IsNameOf _ n = IsName n × IsShellName n

-- the name n is chosen; `operated` is whether an operator follows it
abbrev pub IsChosen : (all : Bool) → (Bool → List ℕ → Type 0) → (operated : Bool) → List ℕ → Type 0
IsChosen true Has operated n = Unit {0}
IsChosen false Has operated n = Has operated n

-- n is the name of a variable in the grammar; `operated` is whether an operator follows it
abbrev pub IsVariable : Grammar → (operated : Bool) → List ℕ → Type 0
IsVariable g operated n = IsNameOf g.forms n × IsChosen g.all g.Has operated n

-- `-` and `+` of operators
abbrev pub minus : ℕ
minus = 45

abbrev pub plus : ℕ
plus = 43

-- the spelling of an operator
abbrev pub operator_text : Operator → List ℕ
operator_text operator.Default = colon ∷ []
operator_text operator.Minus = minus ∷ []
operator_text operator.ColonMinus = colon ∷ minus ∷ []
operator_text operator.Plus = plus ∷ []
operator_text operator.ColonPlus = colon ∷ plus ∷ []
operator_text operator.Question = question_mark ∷ []
operator_text operator.ColonQuestion = colon ∷ question_mark ∷ []

-- whether the operator belongs to these forms
abbrev pub has_operator : Forms → Operator → Bool
has_operator of.Own operator.Default = true
has_operator of.Own _ = false
has_operator of.Envsubst _ = false
has_operator of.Shell operator.Default = false
has_operator of.Shell _ = true
has_operator of.Common operator.ColonMinus = true
has_operator of.Common operator.ColonQuestion = true
has_operator of.Common _ = false

-- whether a message follows the operator, rather than a default or a replacement
abbrev pub takes_message : Operator → Bool
takes_message operator.Question = true
takes_message operator.ColonQuestion = true
takes_message _ = false

-- the text begins with none of these bytes
abbrev pub BeginsWithNone : List ℕ → List ℕ → Type 0
BeginsWithNone bytes [] = Unit {0}
BeginsWithNone bytes (b ∷ s) = AllByRecursion (λ other. b ≢ other) bytes

-- the operator allows the text x after it; `:`, the operator of the forms `Own`, allows no text that begins
-- with `-`, `=`, `?` or `+`
abbrev pub IsStart : Operator → List ℕ → Type 0
IsStart operator.Default x = BeginsWithNone (codes "-=?+") x
IsStart _ x = Unit {0}

-- the beginning of a form: `$$`, `$name`, `${name}`, `${name?}`, or `${name` with an operator
pub data Head : Type 0 where
  Dollar : Head
  Short : List ℕ → Head
  Braced : List ℕ → Head
  Optional : List ℕ → Head
  Opened : List ℕ → Operator → Head

-- `${`, the name n and the text `end`, concatenated
abbrev pub in_braces : List ℕ → List ℕ → List ℕ
in_braces n end = dollar ∷ opening_brace ∷ n ++ end

-- the spelling of a head: `$$`, `$name`, `${name}`, `${name?}`, `${name` with an operator
abbrev pub head_text : Head → List ℕ
head_text Dollar = dollar ∷ dollar ∷ []
head_text (Short n) = dollar ∷ n
head_text (Braced n) = in_braces n (closing_brace ∷ [])
head_text (Optional n) = in_braces n (question_mark ∷ closing_brace ∷ [])
head_text (Opened n op) = in_braces n (operator_text op)

-- The head, with the text x after it, belongs to the grammar. Its name, if any, is chosen. After a name
-- without braces, x doesn't begin with a name byte. After an operator, x begins as `IsStart` allows.
abbrev pub IsHead : Grammar → Head → List ℕ → Type 0
IsHead g Dollar x = IsTrue (is_whole g.forms g.all)
IsHead g (Short n) x = IsVariable g false n × BeginsWithNo IsNameByte x
IsHead g (Braced n) x = IsVariable g false n
IsHead g (Optional n) x = (g.forms ≡ of.Own) × IsVariable g true n
IsHead g (Opened n op) x = IsTrue (has_operator g.forms op) × IsVariable g true n × IsStart op x

-- no head of the grammar begins the text s
abbrev pub BeginsWithNoHead : Grammar → List ℕ → Type 0
BeginsWithNoHead g s = (h : Head) (x : List ℕ) → s ≡ head_text h ++ x → ¬ (IsHead g h x)

-- a byte that isn't a brace
abbrev pub IsNoBrace : ℕ → Type 0
IsNoBrace b = (b ≢ opening_brace) × (b ≢ closing_brace)

-- the bytes close every brace that they open, and this number of earlier ones
pub data ClosesBraces : ℕ → List ℕ → Type 0 where
  nothing : ClosesBraces 0 []
  byte : {d b : ℕ} {m : List ℕ} → IsNoBrace b → ClosesBraces d m → ClosesBraces d (b ∷ m)
  opening : {d : ℕ} {m : List ℕ} → ClosesBraces (suc d) m → ClosesBraces d (opening_brace ∷ m)
  closing : {d : ℕ} {m : List ℕ} → ClosesBraces d m → ClosesBraces (suc d) (closing_brace ∷ m)

-- the bytes are a message: its braces match in a shell's forms, and it has no braces in other forms
abbrev pub IsMessage : Forms → List ℕ → Type 0
IsMessage of.Shell m = ClosesBraces 0 m
IsMessage _ m = AllByRecursion IsNoBrace m

-- the text x begins with a message and the brace that closes it
abbrev pub ClosesMessage : Forms → List ℕ → Type 0
ClosesMessage forms x = (m y : List ℕ) × IsMessage forms m × (x ≡ m ++ closing_brace ∷ y)

-- no brace closes a message at the start of the text x; in forms other than a shell's, x has no brace at all
abbrev pub NeverCloses : Forms → List ℕ → Type 0
NeverCloses of.Shell x = ¬ (ClosesMessage of.Shell x)
NeverCloses _ x = AllByRecursion IsNoBrace x

-- a dollar before this byte can begin a form: the byte is a dollar, an opening brace, or a name byte that
-- isn't a digit
abbrev pub FollowsDollar : ℕ → Type 0
FollowsDollar b = (b ≡ dollar) ⊎ (b ≡ opening_brace) ⊎ (IsName (b ∷ []) × IsShellName (b ∷ []))

-- the text x after a name in braces begins neither with a closing brace nor with an operator of these forms
abbrev pub IsOtherEnd : Forms → List ℕ → Type 0
IsOtherEnd forms x = ((y : List ℕ) → ¬ (x ≡ closing_brace ∷ y))
    × ((op : Operator) (y : List ℕ) → IsTrue (has_operator forms op) → ¬ (x ≡ operator_text op ++ y))

-- the text that identifies the refused form, right after a name in braces; empty if the form has no such text
abbrev pub form_text : ShellForm → List ℕ
form_text form.Minus = codes "-"
form_text form.Question = codes "?"
form_text form.Equals = codes "="
form_text form.Plus = codes "+"
form_text form.Hash = codes "#"
form_text form.Percent = codes "%"
form_text form.Slash = codes "/"
form_text form.ColonEquals = codes ":="
form_text form.ColonPlus = codes ":+"
form_text _ = []

-- The text x after a name in braces has the refused form. For `Unclosed`, x is empty. For a form that has a
-- `form_text`, x begins with it. For `Colon`, x begins with a colon, and none of `-`, `?`, `=` and `+`
-- follows it. For `Other`, x begins with a byte that is no name byte and none of `}:-?=+#%/`. No x has the
-- form `Dollar`, `NoName`, `Message` or `Brace`.
abbrev pub HasForm : ShellForm → List ℕ → Type 0
HasForm form.Unclosed x = x ≡ []
HasForm form.Colon x = (y : List ℕ) × (x ≡ colon ∷ y) × BeginsWithNone (codes "-?=+") y
HasForm form.Other x = (x ≢ []) × BeginsWithNo IsNameByte x × BeginsWithNone (codes "}:-?=+#%/") x
HasForm form.Dollar x = ⊥
HasForm form.NoName x = ⊥
HasForm form.Message x = ⊥
HasForm form.Brace x = ⊥
HasForm form x = (y : List ℕ) × (x ≡ form_text form ++ y)

-- The text s begins with a head that a message follows, and P holds of the text from the message on.
abbrev pub OpensMessage : Grammar → (List ℕ → Type 0) → List ℕ → Type 0
OpensMessage g P s = (n : List ℕ) × (op : Operator) × (x : List ℕ) × IsTrue (takes_message op)
    × IsHead g (Opened n op) x × (s ≡ head_text (Opened n op) ++ x) × P x

-- `is_whole` holds, and the text s begins with `${` and a name that doesn't begin with a digit. The text
-- after the name has the refused form, and begins neither with a closing brace nor with an operator of the
-- grammar.
abbrev pub GoesOn : Grammar → ShellForm → List ℕ → Type 0
GoesOn g form s = IsTrue (is_whole g.forms g.all) × ((n x : List ℕ) × IsName n × IsShellName n
    × (s ≡ in_braces n x) × BeginsWithNo IsNameByte x × IsOtherEnd g.forms x × HasForm form x)

-- The text begins with this refused form; `inside` is whether the text is in a default. A message that never
-- closes is refused in all forms. An opening brace in a default is refused in all forms but a shell's. If
-- `is_whole` holds, `${` is refused unless it is followed by a name and then by a closing brace or an
-- operator. In common forms, a dollar that can begin no form is refused, and so is an opening brace in a
-- message.
abbrev pub IsRefused : Grammar → (inside : Bool) → ShellForm → List ℕ → Type 0
IsRefused g inside form.Brace s =
    IsTrue inside × (g.forms ≢ of.Shell) × ((x : List ℕ) × (s ≡ opening_brace ∷ x))
IsRefused g inside form.Dollar s =
    (g.forms ≡ of.Common) × ((x : List ℕ) × (s ≡ dollar ∷ x) × BeginsWithNo FollowsDollar x)
IsRefused g inside form.NoName s = IsTrue (is_whole g.forms g.all)
    × ((x : List ℕ) × (s ≡ dollar ∷ opening_brace ∷ x)
    × BeginsWithNo (λ b. IsName (b ∷ []) × IsShellName (b ∷ [])) x)
IsRefused g inside form.Message s = (g.forms ≡ of.Common)
    × OpensMessage g (λ x. (m y : List ℕ) × AllByRecursion IsNoBrace m × (x ≡ m ++ opening_brace ∷ y)) s
IsRefused g inside form.Unclosed s =
    OpensMessage g (NeverCloses g.forms) s ⊎ GoesOn g form.Unclosed s
IsRefused g inside form s = GoesOn g form s

-- the message at the start of the text x has this refused form: `Unclosed` if no brace closes it; `Message`
-- if the first brace in x is an opening brace and the forms aren't a shell's
abbrev pub IsEndless : Forms → ShellForm → List ℕ → Type 0
IsEndless forms form.Unclosed x = NeverCloses forms x
IsEndless of.Shell form.Message x = ⊥
IsEndless forms form.Message x = (m y : List ℕ) × AllByRecursion IsNoBrace m × (x ≡ m ++ opening_brace ∷ y)
IsEndless forms _ x = ⊥

-- the text s after a name in braces begins with this end of a variable, in texts of these forms
abbrev pub IsEnd : Forms → List ℕ → SeenEnd → Type 0
IsEnd forms s (seen.Closed x) = s ≡ closing_brace ∷ x.now
IsEnd forms s (seen.Optional x) = (forms ≡ of.Own) × (s ≡ question_mark ∷ closing_brace ∷ x.now)
IsEnd forms s (seen.Operated op x) =
    IsTrue (has_operator forms op) × IsStart op x.now × (s ≡ operator_text op ++ x.now)
IsEnd forms s seen.Other = ((x : List ℕ) → ¬ (s ≡ closing_brace ∷ x))
    × (forms ≡ of.Own → (x : List ℕ) → ¬ (s ≡ question_mark ∷ closing_brace ∷ x))
    × ((op : Operator) (x : List ℕ) → IsTrue (has_operator forms op) → IsStart op x
    → ¬ (s ≡ operator_text op ++ x))
