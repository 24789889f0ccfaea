-- The tree of a template for a text of another tool is well-formed, and has the value of the text.
use Rattle.std.proofs.lemmas.Grind.{common_steps}
use Rattle.std.proofs.Common.{rules, ◌≡◌, Bool, true, false, ℕ, ◌+◌, List, [], ◌∷◌, ◌++◌, length, map, Option, Some, None, unwrap_or, IsTrue, Ok, Err, refl, sym, ap, ◌∙◌, subst, append_assoc, arith}
use Rattle.std.proofs.lemmas.Bool.Decides.{nat_tests}
use Rattle.std.proofs.lemmas.List.{map-append}
use Rattle.subst_foreign.proofs.TokenLemmas.{name_of}
use Rattle.subst_foreign.specs.Foreign.{Given, and_then, found, unplaced}
use Rattle.subst_foreign.specs.Grammar.{Grammar, Head, has_operator, takes_message, IsHead, IsNameOf, IsNoBrace}
use Rattle.subst_foreign.specs.Grammar as head
use Rattle.subst_foreign.specs.Question.{negated, value_of, is_missing, is_empty}
use Rattle.subst_foreign.specs.Template.{is_escaped, item_of_byte, item_of_head, plain_item, renamed, seen_by, template_name, template_name_of, text_name, tree_before, tree_of}
use Rattle.subst_foreign.specs.Text.{Item, Text, IsItem, IsText, IsWhole, found_or, if_found, head_value, item_spelling, item_value, item_variables, operated_value, plain_value, required_value, spelling, text_value, variables_of}
use Rattle.subst_foreign.specs.Text as foreign
use Rattle.subst_foreign.specs.declared.forms.Forms.{Forms}
use Rattle.subst_foreign.specs.declared.forms.Forms.TheVariants as of
use Rattle.subst_foreign.specs.declared.forms.Missing.{Missing}
use Rattle.subst_foreign.specs.declared.forms.Missing.TheVariants as missing
use Rattle.subst_foreign.specs.declared.forms.Operator.{Operator}
use Rattle.subst_foreign.specs.declared.forms.Operator.TheVariants as operator
use Rattle.subst_language.proofs.Language.BalancedLemmas.{balanced_append}
use Rattle.subst_language.proofs.Language.ItemLemmas.{braced_balanced, default_balanced, escape_balanced, optional_balanced, short_balanced}
use Rattle.subst_language.proofs.Language.NameLemmas.{closing_no_name, opening_no_name, name_bytes}
use Rattle.subst_language.proofs.Language.TreeLemmas.{followed_by_no_name, text-join, value-join, well_formed_join}
use Rattle.subst_language.specs.Language.Balanced.{IsBalanced}
use Rattle.subst_language.specs.Language.Balanced.IsBalanced.{braces, byte, empty}
use Rattle.subst_language.specs.Language.Bytes.{closing_brace, dollar, opening_brace}
use Rattle.subst_language.specs.Language.Join.{join}
use Rattle.subst_language.specs.Language.LookUp.{LookUp}
use Rattle.subst_language.specs.Language.Name.{BeginsWithNo, IsName, IsNameByte}
use Rattle.subst_language.specs.Language.NamesIn.{names_in, names_in_item}
use Rattle.subst_language.specs.Language.Tree.{Braced, Default, Empty, Optional, Plain, Short, Then, Tree, item_text, text}
use Rattle.subst_language.specs.Language.Tree as template
use Rattle.subst_language.specs.Language.Value.{Bytes, Missing as Lacks, Value, joined, value}
use Rattle.subst_language.specs.Language.Value as valued
use Rattle.subst_language.specs.Language.WellFormed.{EndsName, IsWellFormed}
use Rattle.subst_language.specs.Language.WellFormed as formed
use Rattle.subst_language.specs.Maps.{without_empty}

-- a digit before a name makes a name
after_digit : (b : ℕ) (n : List ℕ) → IsNameByte b → IsName n → IsName (b ∷ n)
after_digit b n digit is = (digit, name_bytes n is)

-- the name that a template looks up is a name
pub template_name_is_name : (forms : Forms) (op : Option Operator) (n : List ℕ) → IsName n
    → IsName (template_name forms op n)
template_name_is_name of.Shell None n is = after_digit value_of n refl is
template_name_is_name of.Shell (Some operator.Minus) n is = after_digit value_of n refl is
template_name_is_name of.Shell (Some operator.Question) n is = after_digit value_of n refl is
template_name_is_name of.Shell (Some operator.Plus) n is = after_digit is_missing n refl is
template_name_is_name of.Shell (Some operator.ColonPlus) n is = after_digit is_empty n refl is
template_name_is_name forms op n is = is

-- the item of a byte is well-formed
pub byte_item : (b : ℕ) (next : Tree) → formed.IsItem (item_of_byte (is_escaped b) b) next
byte_item b next = search (rules, nat_tests)

-- a name ends before the item of a byte if it ends before the byte
byte_ends : (b : ℕ) (next : Tree) → ¬ (IsNameByte b) → EndsName (Then (item_of_byte (is_escaped b) b) next)
byte_ends b next ends = search rules

-- a property of the item of a variable without an operator, by cases
pub plain_case : (P : template.Item → Type 0) (forms : Forms) (unset : Missing) (item : template.Item) (n : List ℕ)
    → P item → P (Optional n) → P (Braced (value_of ∷ n)) → P (Optional (value_of ∷ n))
    → P (plain_item forms unset item n)
plain_case P of.Shell missing.Fault item n same optional asked optional_asked = asked
plain_case P of.Shell missing.Nothing item n same optional asked optional_asked = optional_asked
plain_case P of.Common unset item n same optional asked optional_asked = optional
plain_case P _ missing.Fault item n same optional asked optional_asked = same
plain_case P _ missing.Nothing item n same optional asked optional_asked = optional

-- a name ends before the item of a head
head_ends : (forms : Forms) (unset : Missing) (h : Head) (next : Tree)
    → EndsName (Then (item_of_head forms unset h) next)
head_ends forms unset (head.Short n) next = search (rules, plain_case)
head_ends forms unset (head.Braced n) next = search (rules, plain_case)
head_ends forms unset _ next = tt

-- a name ends before the tree of a text if it ends before the text
text_ends : (forms : Forms) (unset : Missing) (t : Text) (x : List ℕ) → BeginsWithNo IsNameByte (spelling t ++ x)
    → EndsName (tree_of forms unset t)
text_ends forms unset foreign.Empty x ends = tt
text_ends forms unset (foreign.Then (foreign.Byte b) rest) x ends = byte_ends b (tree_of forms unset rest) ends
text_ends forms unset (foreign.Then (foreign.Whole h) rest) x ends = search (rules, head_ends)
text_ends forms unset (foreign.Then (foreign.Operated n op t) rest) x ends = tt
text_ends forms unset (foreign.Then (foreign.Required n op m) rest) x ends = tt
text_ends forms unset (foreign.Then (foreign.Group t) rest) x ends = opening_no_name

-- the item of a variable without an operator is well-formed
plain_fits : (forms : Forms) (unset : Missing) (item : template.Item) (n : List ℕ) (next : Tree) → IsName n
    → formed.IsItem item next → formed.IsItem (plain_item forms unset item n) next
plain_fits forms unset item n next is fits = search (rules, after_digit, plain_case)

-- the item of a head is well-formed
head_fits : (g : Grammar) (unset : Missing) (h : Head) (x : List ℕ) (next : Tree) → IsHead g h x
    → (BeginsWithNo IsNameByte x → EndsName next) → formed.IsItem (item_of_head g.forms unset h) next
head_fits g unset head.Dollar x next is ends = refl
head_fits g unset (head.Short n) x next is ends = search (rules, plain_fits, name_of)
head_fits g unset (head.Braced n) x next is ends = search (rules, plain_fits, name_of)
head_fits g unset (head.Optional n) x next is ends = name_of g.forms n is.1.0
head_fits g unset (head.Opened n op) x next is ends = refl

-- a byte that isn't a brace is balanced, even if it is escaped
byte_balanced : (b : ℕ) → IsNoBrace b → IsBalanced (item_text (item_of_byte (is_escaped b) b))
byte_balanced b none = search (rules, escape_balanced, byte, nat_tests, empty)

plain_balanced : (forms : Forms) (unset : Missing) (item : template.Item) (n : List ℕ) → IsName n
    → IsBalanced (item_text item) → IsBalanced (item_text (plain_item forms unset item n))
plain_balanced forms unset item n is fits =
    let asked = after_digit value_of n refl is in
    plain_case (λ item. IsBalanced (item_text item)) forms unset item n fits (optional_balanced n is)
    (braced_balanced (value_of ∷ n) asked) (optional_balanced (value_of ∷ n) asked)

head_balanced : (g : Grammar) (unset : Missing) (h : Head) (x : List ℕ) → IsHead g h x
    → IsBalanced (item_text (item_of_head g.forms unset h))
head_balanced g unset head.Dollar x is = escape_balanced dollar
head_balanced g unset (head.Short n) x is = search (rules, plain_balanced, name_of, short_balanced)
head_balanced g unset (head.Braced n) x is = search (rules, plain_balanced, name_of, braced_balanced)
head_balanced g unset (head.Optional n) x is = optional_balanced n (name_of g.forms n is.1.0)
head_balanced g unset (head.Opened n op) x is = escape_balanced dollar

mutual
  -- in a template, braces match inside a default
  item_balanced : (g : Grammar) (unset : Missing) (item : Item) (x : List ℕ) (next : Tree) → IsItem g true item x
      → IsBalanced (text next) → IsBalanced (text (tree_before g.forms unset item next))
  item_balanced g unset (foreign.Byte b) x next is more = balanced_append (byte_balanced b (is.no_brace refl)) more
  item_balanced g unset (foreign.Whole h) x next is more = balanced_append (head_balanced g unset h x is.1) more
  item_balanced g unset (foreign.Operated n op t) x next is more =
      balanced_append (default_balanced (template_name g.forms (Some op) n) (text (tree_of g.forms unset t))
      (template_name_is_name g.forms (Some op) n (name_of g.forms n is.1.1.0))
      (text_balanced g unset t (closing_brace ∷ x) is.2)) more
  item_balanced g unset (foreign.Required n op m) x next is more =
      balanced_append (braced_balanced (template_name g.forms (Some op) n)
      (template_name_is_name g.forms (Some op) n (name_of g.forms n is.1.1.0))) more
  item_balanced g unset (foreign.Group t) x next is more =
      subst (λ (z : List ℕ). IsBalanced (opening_brace ∷ z))
      (sym (text-join (tree_of g.forms unset t) (Then (Plain closing_brace) next)))
      (braces (text_balanced g unset t (closing_brace ∷ x) is.2) more)

  text_balanced : (g : Grammar) (unset : Missing) (t : Text) (x : List ℕ) → IsText g true t x
      → IsBalanced (text (tree_of g.forms unset t))
  text_balanced g unset foreign.Empty x is = empty
  text_balanced g unset (foreign.Then item rest) x is =
      item_balanced g unset item (spelling rest ++ x) (tree_of g.forms unset rest) is.0
      (text_balanced g unset rest x is.1)

mutual
  -- the tree of a template for a text is well-formed
  item_fits : (g : Grammar) (unset : Missing) (inside : Bool) (item : Item) (x : List ℕ) (next : Tree)
      → IsItem g inside item x → IsWellFormed next → (BeginsWithNo IsNameByte x → EndsName next)
      → IsWellFormed (tree_before g.forms unset item next)
  item_fits g unset inside (foreign.Byte b) x next is more ends = (byte_item b next, more)
  item_fits g unset inside (foreign.Whole h) x next is more ends = (head_fits g unset h x next is.1 ends, more)
  item_fits g unset inside (foreign.Operated n op t) x next is more ends = (
    (
      template_name_is_name g.forms (Some op) n (name_of g.forms n is.1.1.0),
      text_fits g unset true t (closing_brace ∷ x) is.2,
      text_balanced g unset t (closing_brace ∷ x) is.2,
    ),
    more,
  )
  item_fits g unset inside (foreign.Required n op m) x next is more ends =
      (template_name_is_name g.forms (Some op) n (name_of g.forms n is.1.1.0), more)
  item_fits g unset inside (foreign.Group t) x next is more ends = (
    (omega arith, omega arith),
    well_formed_join (tree_of g.forms unset t) (Then (Plain closing_brace) next)
        (text_fits g unset true t (closing_brace ∷ x) is.2) ((omega arith, omega arith), more)
        (followed_by_no_name (tree_of g.forms unset t) (closing_brace ∷ text next) closing_no_name),
  )

  pub text_fits : (g : Grammar) (unset : Missing) (inside : Bool) (t : Text) (x : List ℕ) → IsText g inside t x
      → IsWellFormed (tree_of g.forms unset t)
  text_fits g unset inside foreign.Empty x is = tt
  text_fits g unset inside (foreign.Then item rest) x is =
      item_fits g unset inside item (spelling rest ++ x) (tree_of g.forms unset rest) is.0
      (text_fits g unset inside rest x is.1) (text_ends g.forms unset rest x)

-- the names in two trees joined
names_in-join : (t u : Tree) → names_in (join t u) ≡ names_in t ++ names_in u
names_in-join Empty u = refl
names_in-join (Then item rest) u = search (rules, names_in_item, append_assoc, names_in, names_in-join rest u)

-- the item of a byte has no name
byte_names : (b : ℕ) → names_in_item (item_of_byte (is_escaped b) b) ≡ []
byte_names b = search rules

plain_names : (forms : Forms) (unset : Missing) (item : template.Item) (n : List ℕ) → names_in_item item ≡ n ∷ []
    → names_in_item (plain_item forms unset item n) ≡ template_name forms None n ∷ []
plain_names of.Own missing.Fault item n is = is
plain_names of.Own missing.Nothing item n is = refl
plain_names of.Envsubst missing.Fault item n is = is
plain_names of.Envsubst missing.Nothing item n is = refl
plain_names of.Shell missing.Fault item n is = refl
plain_names of.Shell missing.Nothing item n is = refl
plain_names of.Common unset item n is = refl

-- the item of a head has the looked-up name of its variable
head_names : (g : Grammar) (unset : Missing) (h : Head) (x : List ℕ) → IsWhole h → IsHead g h x
    → names_in_item (item_of_head g.forms unset h)
    ≡ map (template_name_of g.forms) (item_variables (foreign.Whole h))
head_names g unset head.Dollar x whole is = refl
head_names g unset (head.Short n) x whole is = plain_names g.forms unset (Short n) n refl
head_names g unset (head.Braced n) x whole is = plain_names g.forms unset (Braced n) n refl
head_names g unset (head.Optional n) x whole is = rw is.0 refl
head_names g unset (head.Opened n op) x whole is = absurd whole

mutual
  -- the names in the tree of a text's template are the looked-up names of its variables
  item_names : (g : Grammar) (unset : Missing) (inside : Bool) (item : Item) (x : List ℕ) (next : Tree)
      → IsItem g inside item x
      → names_in (tree_before g.forms unset item next)
      ≡ map (template_name_of g.forms) (item_variables item) ++ names_in next
  item_names g unset inside (foreign.Byte b) x next is = rw (byte_names b) refl
  item_names g unset inside (foreign.Whole h) x next is = rw (head_names g unset h x is.0 is.1) refl
  item_names g unset inside (foreign.Operated n op t) x next is =
      ap (λ (z : List (List ℕ)). (template_name g.forms (Some op) n ∷ z) ++ names_in next)
      (text_names g unset true t (closing_brace ∷ x) is.2)
  item_names g unset inside (foreign.Required n op m) x next is = refl
  item_names g unset inside (foreign.Group t) x next is =
      names_in-join (tree_of g.forms unset t) (Then (Plain closing_brace) next)
      ∙ ap (λ z. z ++ names_in next) (text_names g unset true t (closing_brace ∷ x) is.2)

  pub text_names : (g : Grammar) (unset : Missing) (inside : Bool) (t : Text) (x : List ℕ) → IsText g inside t x
      → names_in (tree_of g.forms unset t) ≡ map (template_name_of g.forms) (variables_of t)
  text_names g unset inside foreign.Empty x is = refl
  text_names g unset inside (foreign.Then item rest) x is =
      item_names g unset inside item (spelling rest ++ x) (tree_of g.forms unset rest) is.0
      ∙ ap (λ z. map (template_name_of g.forms) (item_variables item) ++ z) (text_names g unset inside rest x is.1)
      ∙ sym (map-append (template_name_of g.forms) (item_variables item) (variables_of rest))

-- two values joined, without positions
unplaced_joined : (v w : Value) → unplaced (joined v w) ≡ and_then (unplaced v) (unplaced w)
unplaced_joined (Lacks position name) w = refl
unplaced_joined (Bytes x) (Lacks position name) = refl
unplaced_joined (Bytes x) (Bytes y) = refl

renamed_joined : (forms : Forms) (a b : Given)
    → renamed forms (and_then a b) ≡ and_then (renamed forms a) (renamed forms b)
renamed_joined forms (Err n) b = refl
renamed_joined forms (Ok x) (Err n) = refl
renamed_joined forms (Ok x) (Ok y) = refl

and_then_assoc : (a b c : Given) → and_then (and_then a b) c ≡ and_then a (and_then b c)
and_then_assoc (Err n) b c = refl
and_then_assoc (Ok x) (Err n) c = refl
and_then_assoc (Ok x) (Ok y) (Err n) = refl
and_then_assoc (Ok x) (Ok y) (Ok z) = ap Ok (append_assoc x y z)

-- two values joined, with the names of the text
renamed_value : (forms : Forms) (v w : Value)
    → renamed forms (unplaced (joined v w)) ≡ and_then (renamed forms (unplaced v)) (renamed forms (unplaced w))
renamed_value forms v w = ap (renamed forms) (unplaced_joined v w) ∙ renamed_joined forms (unplaced v) (unplaced w)

-- the value of a byte's item is the byte
byte_gives : (forms : Forms) (p b : ℕ) (look : LookUp)
    → renamed forms (unplaced (valued.item_value p (item_of_byte (is_escaped b) b) look)) ≡ Ok (b ∷ [])
byte_gives forms p b look = search rules

-- the value of a variable with a default
renamed_default : (forms : Forms) (o : Option (List ℕ)) (v : Value)
    → renamed forms (unplaced (valued.found_or o v)) ≡ found_or o (renamed forms (unplaced v))
renamed_default forms (Some x) v = refl
renamed_default forms None v = refl

renamed_other : (forms : Forms) (o : Option (List ℕ)) (v : Value)
    → renamed forms (unplaced (valued.found_or (negated o) v)) ≡ if_found o (renamed forms (unplaced v))
renamed_other forms (Some x) v = refl
renamed_other forms None v = refl

-- the value of a required variable, or the missing name
renamed_found : (forms : Forms) (o : Option (List ℕ)) (position : ℕ) (asked n : List ℕ) → text_name forms asked ≡ n
    → renamed forms (unplaced (valued.found_or o (Lacks position asked))) ≡ found o n
renamed_found forms (Some x) position asked n same = refl
renamed_found forms None position asked n same = ap Err same

renamed_optional : (forms : Forms) (o : Option (List ℕ))
    → renamed forms (unplaced (valued.found_or o (Bytes []))) ≡ Ok (unwrap_or o [])
renamed_optional forms (Some x) = refl
renamed_optional forms None = refl

-- an optional variable has the same value if empty values are unset
optional_gives : (look : LookUp) (n : List ℕ)
    → renamed of.Common (unplaced (valued.found_or (without_empty look n) (Bytes []))) ≡ Ok (unwrap_or (look n) [])
optional_gives look n =
    grind (arith, common_steps, renamed, unplaced, found_or, without_empty, unwrap_or, nat_tests)

-- the value of a variable without an operator
plain_gives : (forms : Forms) (unset : Missing) (item : template.Item) (n : List ℕ) (p q : ℕ) (look : LookUp)
    → ((look : LookUp) → valued.item_value p item look ≡ valued.found_or (look n) (Lacks q n))
    → renamed forms (unplaced (valued.item_value p (plain_item forms unset item n) (seen_by forms look)))
    ≡ plain_value forms unset look n
plain_gives of.Own missing.Fault item n p q look is = rw (is look) (renamed_found of.Own (look n) q n n refl)
plain_gives of.Own missing.Nothing item n p q look is = renamed_optional of.Own (look n)
plain_gives of.Envsubst missing.Fault item n p q look is =
    rw (is look) (renamed_found of.Envsubst (look n) q n n refl)
plain_gives of.Envsubst missing.Nothing item n p q look is = renamed_optional of.Envsubst (look n)
plain_gives of.Shell missing.Fault item n p q look is = search (rules, renamed_found)
plain_gives of.Shell missing.Nothing item n p q look is = renamed_optional of.Shell (look n)
plain_gives of.Common unset item n p q look is = optional_gives look n

-- the value of a head's item
head_gives : (g : Grammar) (unset : Missing) (h : Head) (x : List ℕ) (p : ℕ) (look : LookUp) → IsWhole h
    → IsHead g h x
    → renamed g.forms (unplaced (valued.item_value p (item_of_head g.forms unset h) (seen_by g.forms look)))
    ≡ head_value g.forms unset h look
head_gives g unset head.Dollar x p look whole is = refl
head_gives g unset (head.Short n) x p look whole is = grind (arith, common_steps, plain_gives)
head_gives g unset (head.Braced n) x p look whole is = grind (arith, common_steps, plain_gives)
head_gives g unset (head.Optional n) x p look whole is = rw is.0 (renamed_optional of.Own (look n))
head_gives g unset (head.Opened n op) x p look whole is = absurd whole

-- the value of a variable with an operator and a text
operated_gives : (forms : Forms) (op : Operator) (n : List ℕ) (look : LookUp) (v : Value) → IsNameOf forms n
    → IsTrue (has_operator forms op) → takes_message op ≡ false
    → renamed forms (unplaced (valued.found_or (seen_by forms look (template_name forms (Some op) n)) v))
    ≡ operated_value op look n (renamed forms (unplaced v))
operated_gives of.Own operator.Default n look v is has text = renamed_default of.Own (look n) v
operated_gives of.Own op n look v is has text = absurd cc
operated_gives of.Envsubst op n look v is has text = absurd cc
operated_gives of.Shell operator.Default n look v is has text = absurd cc
operated_gives of.Shell operator.Minus n look v is has text = renamed_default of.Shell (look n) v
operated_gives of.Shell operator.ColonMinus n look v is has text = search rules
operated_gives of.Shell operator.Plus n look v is has text = renamed_other of.Shell (look n) v
operated_gives of.Shell operator.ColonPlus n look v is has text = renamed_other of.Shell (without_empty look n) v
operated_gives of.Common operator.ColonMinus n look v is has text =
    renamed_default of.Common (without_empty look n) v
operated_gives forms op n look v is has text = absurd cc

-- the value of a variable with an operator and a message
required_gives : (forms : Forms) (op : Operator) (n : List ℕ) (look : LookUp) (position : ℕ) → IsNameOf forms n
    → IsTrue (has_operator forms op) → takes_message op ≡ true
    → renamed forms (unplaced (valued.found_or (seen_by forms look (template_name forms (Some op) n))
    (Lacks position (template_name forms (Some op) n)))) ≡ required_value op look n
required_gives of.Shell operator.Question n look position is has message = search rules
required_gives of.Shell operator.ColonQuestion n look position is has message = search rules
required_gives of.Common operator.ColonQuestion n look position is has message = search rules
required_gives of.Own operator.Default n look position is has message = absurd cc
required_gives _ op n look position is has message = absurd cc

-- the value of an item, followed by that of the rest
after_item : (forms : Forms) (p : ℕ) (item : template.Item) (next : Tree) (look : LookUp) (a b : Given)
    → renamed forms (unplaced (valued.item_value p item look)) ≡ a
    → ((q : ℕ) → renamed forms (unplaced (value q next look)) ≡ b)
    → renamed forms (unplaced (value p (Then item next) look)) ≡ and_then a b
after_item forms p item next look a b first more = search (rules, renamed_value)

mutual
  -- the tree has the value of the text
  item_means : (g : Grammar) (unset : Missing) (inside : Bool) (item : Item) (x : List ℕ) (p : ℕ) (next : Tree)
      (look : LookUp) (v : Given) → IsItem g inside item x
      → ((q : ℕ) → renamed g.forms (unplaced (value q next (seen_by g.forms look))) ≡ v)
      → renamed g.forms (unplaced (value p (tree_before g.forms unset item next) (seen_by g.forms look)))
      ≡ and_then (item_value g.forms unset item look) v
  item_means g unset inside (foreign.Byte b) x p next look v is more =
      after_item g.forms p (item_of_byte (is_escaped b) b) next (seen_by g.forms look) (Ok (b ∷ [])) v
      (byte_gives g.forms p b (seen_by g.forms look)) more
  item_means g unset inside (foreign.Whole h) x p next look v is more =
      after_item g.forms p (item_of_head g.forms unset h) next (seen_by g.forms look)
      (head_value g.forms unset h look) v (head_gives g unset h x p look is.0 is.1) more
  item_means g unset inside (foreign.Operated n op t) x p next look v is more =
      let asks = template_name g.forms (Some op) n in
      let inner = tree_of g.forms unset t in
      after_item g.forms p (Default asks inner) next (seen_by g.forms look)
      (operated_value op look n (text_value g.forms unset t look)) v
      (operated_gives g.forms op n look (value (p + 3 + length asks) inner (seen_by g.forms look)) is.1.1.0 is.1.0
      is.0 ∙ ap (operated_value op look n)
      (text_means g unset true t (closing_brace ∷ x) (p + 3 + length asks) look is.2)) more
  item_means g unset inside (foreign.Required n op m) x p next look v is more =
      let asks = template_name g.forms (Some op) n in
      after_item g.forms p (Braced asks) next (seen_by g.forms look) (required_value op look n) v
      (required_gives g.forms op n look (p + 2) is.1.1.0 is.1.0 is.0) more
  item_means g unset inside (foreign.Group t) x p next look v is more =
      let inner = tree_of g.forms unset t in
      let seen = seen_by g.forms look in
      let closed = Then (Plain closing_brace) next in
      let after : (q : ℕ) → renamed g.forms (unplaced (value q (join inner closed) seen))
      ≡ and_then (text_value g.forms unset t look) (and_then (Ok (closing_brace ∷ [])) v) = λ q.
      ap (λ z. renamed g.forms (unplaced z)) (value-join q inner closed seen)
      ∙ renamed_value g.forms (value q inner seen) (value (q + length (text inner)) closed seen)
      ∙ rw (
        text_means g unset true t (closing_brace ∷ x) q look is.2,
        after_item g.forms (q + length (text inner)) (Plain closing_brace) next seen (Ok (closing_brace ∷ [])) v
            refl more,
      )
      refl in
      after_item g.forms p (Plain opening_brace) (join inner closed) seen (Ok (opening_brace ∷ []))
      (and_then (text_value g.forms unset t look) (and_then (Ok (closing_brace ∷ [])) v)) refl after
      ∙ ap (and_then (Ok (opening_brace ∷ [])))
      (sym (and_then_assoc (text_value g.forms unset t look) (Ok (closing_brace ∷ [])) v))
      ∙ sym (and_then_assoc (Ok (opening_brace ∷ []))
      (and_then (text_value g.forms unset t look) (Ok (closing_brace ∷ []))) v)

  pub text_means : (g : Grammar) (unset : Missing) (inside : Bool) (t : Text) (x : List ℕ) (p : ℕ) (look : LookUp)
      → IsText g inside t x
      → renamed g.forms (unplaced (value p (tree_of g.forms unset t) (seen_by g.forms look)))
      ≡ text_value g.forms unset t look
  text_means g unset inside foreign.Empty x p look is = refl
  text_means g unset inside (foreign.Then item rest) x p look is =
      item_means g unset inside item (spelling rest ++ x) p (tree_of g.forms unset rest) look
      (text_value g.forms unset rest look) is.0 (λ q. text_means g unset inside rest x q look is.1)
