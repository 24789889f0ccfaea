-- Listed variables and refused forms lie within a text, and a template's missing names are names of the text.
use Rattle.std.proofs.Common.{rules, ◌≡◌, ◌<◌, ◌≤◌, ℕ, ◌+◌, zero, suc, true, List, [], ◌∷◌, ◌++◌, Bool, Option, Some, None, length, refl, length-append, arith}
use Rattle.std.specs.List.{AllByRecursion}
use Rattle.subst_foreign.proofs.ReadingLemmas.{token_some}
use Rattle.subst_foreign.specs.Foreign.{IsShellName}
use Rattle.subst_foreign.specs.Grammar.{Grammar, Opened, head_text, IsNameOf}
use Rattle.subst_foreign.specs.Grammar as head
use Rattle.subst_foreign.specs.Reading.{VariableAt, token_text, depth_after, end_of, listed_at, outermost_at, refused_at, Listing, Reading, Token}
use Rattle.subst_foreign.specs.Reading as tokens
use Rattle.subst_foreign.specs.Reading.Listing.{ended, token}
use Rattle.subst_foreign.specs.Reading.Reading.{ended as read_end, unclosed, token as read_token}
use Rattle.subst_foreign.specs.Template.{template_name, template_name_of, text_name}
use Rattle.subst_foreign.specs.Text.{Item, Text, Empty, Then, Variable, item_variables, spelling, variables_of, IsItem, IsText}
use Rattle.subst_foreign.specs.Text as text
use Rattle.subst_foreign.specs.declared.forms.Forms.{Forms}
use Rattle.subst_foreign.specs.declared.forms.Forms.TheVariants as of
use Rattle.subst_foreign.specs.declared.forms.Operator.{Operator}
use Rattle.subst_foreign.specs.declared.forms.Operator.TheVariants as operator
use Rattle.subst_foreign.specs.declared.refused.FormAt.{FormAt}
use Rattle.subst_language.proofs.Language.ListLemmas.{each_append}
use Rattle.subst_language.specs.Language.Bytes.{closing_brace}
use Rattle.subst_language.specs.Language.Name.{IsName}

-- a shell's name has no digit of a question to remove
no_digit : (n : List ℕ) → IsName n → IsShellName n → text_name of.Shell n ≡ n
no_digit [] is shell = absurd is
no_digit (b ∷ n) is shell = search rules

-- a looked-up name, without the digit of a question, is the name of the variable
text_name-template_name : (forms : Forms) (op : Option Operator) (n : List ℕ) → IsNameOf forms n
    → text_name forms (template_name forms op n) ≡ n
text_name-template_name of.Own op n is = refl
text_name-template_name of.Envsubst op n is = refl
text_name-template_name of.Common op n is = refl
text_name-template_name of.Shell None n is = refl
text_name-template_name of.Shell (Some operator.Minus) n is = refl
text_name-template_name of.Shell (Some operator.Question) n is = refl
text_name-template_name of.Shell (Some operator.Plus) n is = refl
text_name-template_name of.Shell (Some operator.ColonPlus) n is = refl
text_name-template_name of.Shell (Some operator.Default) n is = no_digit n is.0 is.1
text_name-template_name of.Shell (Some operator.ColonMinus) n is = no_digit n is.0 is.1
text_name-template_name of.Shell (Some operator.ColonQuestion) n is = no_digit n is.0 is.1

abbrev HasTextName : Grammar → Variable → Type 0
HasTextName g v = text_name g.forms (template_name_of g.forms v) ≡ v.name

mutual
  item_named : (g : Grammar) (inside : Bool) (item : Item) (x : List ℕ) → IsItem g inside item x
      → AllByRecursion (HasTextName g) (item_variables item)
  item_named g inside (text.Byte b) x is = tt
  item_named g inside (text.Whole (head.Short n)) x is = (text_name-template_name g.forms None n is.1.0.0, tt)
  item_named g inside (text.Whole (head.Braced n)) x is = (text_name-template_name g.forms None n is.1.0, tt)
  item_named g inside (text.Whole (head.Optional n)) x is = (text_name-template_name g.forms None n is.1.1.0, tt)
  item_named g inside (text.Whole head.Dollar) x is = tt
  item_named g inside (text.Whole (head.Opened n op)) x is = tt
  item_named g inside (text.Operated n op t) x is =
      (text_name-template_name g.forms (Some op) n is.1.1.0, text_named g true t (closing_brace ∷ x) is.2)
  item_named g inside (text.Required n op m) x is = (text_name-template_name g.forms (Some op) n is.1.1.0, tt)
  item_named g inside (text.Group t) x is = text_named g true t (closing_brace ∷ x) is.2

  -- the reported names of a text's variables are their names
  pub text_named : (g : Grammar) (inside : Bool) (t : Text) (x : List ℕ) → IsText g inside t x
      → AllByRecursion (HasTextName g) (variables_of t)
  text_named g inside Empty x is = tt
  text_named g inside (Then item rest) x is =
      each_append (HasTextName g) (item_variables item) (variables_of rest)
      (item_named g inside item (spelling rest ++ x) is.0) (text_named g inside rest x is.1)

-- if P implies Q, it does for all elements of a list
each_weaker : {X : Type 0} (P Q : X → Type 0) → ((x : X) → P x → Q x) → (l : List X) → AllByRecursion P l
    → AllByRecursion Q l
each_weaker P Q so [] all = tt
each_weaker P Q so (x ∷ l) all = (so x all.0, each_weaker P Q so l all.1)

-- the variable of a token ends within it
token_within : (p : ℕ) (t : Token) → AllByRecursion (λ v. end_of v ≤ p + length (token_text t)) (listed_at p t)
token_within p (tokens.Byte b) = tt
token_within p (tokens.Whole (head.Short n)) = (omega arith, tt)
token_within p (tokens.Whole (head.Braced n)) = search (rules, length-append)
token_within p (tokens.Whole (head.Optional n)) = search (rules, length-append)
token_within p (tokens.Whole head.Dollar) = tt
token_within p (tokens.Whole (head.Opened n op)) = tt
token_within p (tokens.Opens n op) = (omega (arith, length-append n (head.operator_text op)), tt)
token_within p (tokens.Required n op m) = search (rules, length-append)
token_within p tokens.Opening = tt
token_within p tokens.Closing = tt
token_within p (tokens.Refused form front) = tt

-- listed variables lie within the text, wherever it begins
listed_within : (g : Grammar) (p depth : ℕ) (s : List ℕ) (list : List VariableAt) → Listing g p depth s list
    → AllByRecursion (λ v. end_of v ≤ p + length s) list
listed_within g p depth _ _ ended = tt
listed_within g p depth _ _ (token {variables = rest} t x is next) =
    let lengths = length-append (token_text t) x in
    each_append (λ v. end_of v ≤ p + length (token_text t ++ x)) (listed_at p t) rest
    (each_weaker _ _ (λ v below. omega (arith, below, lengths)) (listed_at p t) (token_within p t))
    (each_weaker _ _ (λ v below. omega (arith, below, lengths)) rest
    (listed_within g (p + length (token_text t)) (depth_after depth t) x rest next))

pub listed_in_text : (g : Grammar) (s : List ℕ) (list : List VariableAt) → Listing g 0 0 s list
    → AllByRecursion (λ v. end_of v ≤ length s) list
listed_in_text g s list listing = search (rules, each_weaker, listed_within)

-- a refused form begins where its token does
token_refused : (p end : ℕ) (t : Token) → p < end → AllByRecursion (λ at. at.position < end) (refused_at p t)
token_refused p end (tokens.Refused form front) below = (below, tt)
token_refused p end _ below = tt

-- the outermost open variable after a token begins before the text after the token
outermost_before : (depth outermost p len after : ℕ) → (0 < depth → outermost < p) → 0 < len
    → 0 < after → outermost_at depth outermost p < p + len
outermost_before zero outermost p len after before some more = omega (arith, some)
outermost_before (suc depth) outermost p len after before some more = omega (arith, some, before (omega arith))

-- refused forms begin within the text, wherever it begins
refused_within : (g : Grammar) (outermost p depth : ℕ) (s : List ℕ) (refused : List FormAt)
    → (0 < depth → outermost < p) → Reading g outermost p depth s refused
    → AllByRecursion (λ at. at.position < p + length s) refused
refused_within g outermost p _ _ _ before read_end = tt
refused_within g outermost p (suc depth) _ _ before unclosed = (omega (arith, before (omega arith)), tt)
refused_within g outermost p depth _ _ before (read_token {refused = rest} t x is next) =
    let lengths = length-append (token_text t) x in
    let some = token_some g depth t x is in
    each_append (λ at. at.position < p + length (token_text t ++ x)) (refused_at p t) rest
    (token_refused p (p + length (token_text t ++ x)) t (omega (arith, lengths, some)))
    (each_weaker _ _ (λ at below. omega (arith, below, lengths)) rest
    (refused_within g (outermost_at depth outermost p) (p + length (token_text t)) (depth_after depth t) x rest
    (outermost_before depth outermost p (length (token_text t)) (depth_after depth t) before some) next))

pub refused_in_text : (g : Grammar) (s : List ℕ) (refused : List FormAt) → Reading g 0 0 0 s refused
    → AllByRecursion (λ at. at.position < length s) refused
refused_in_text g s refused reading = search (rules, each_weaker, refused_within)
