-- A text begins with one token: one head, one message, one refused form, or one literal byte or brace.
use Rattle.std.proofs.Common.{rules, ◌≡◌, ◌≢◌, ◌==◌, ◌||◌, inl, inr, ℕ, ◌<◌, zero, suc, Bool, false, cond, List, [], ◌∷◌, ◌++◌, drop, codes, IsTrue, refl, sym, ap, ◌∙◌, subst, append_assoc, append-nil, arith, ne_eqb, true≢false}
use Rattle.std.proofs.lemmas.List.{append_cancel_left, append_cancel_right}
use Rattle.std.specs.List.{AllByRecursion}
use Rattle.subst_foreign.specs.Foreign.{IsShellName, is_inside}
use Rattle.subst_foreign.specs.Grammar.{Grammar, is_whole, IsNameOf, minus, plus, operator_text, has_operator, takes_message, BeginsWithNone, Head, Dollar, Short, Braced, Optional, Opened, in_braces, head_text, IsHead, IsNoBrace, ClosesBraces, IsMessage, FollowsDollar, IsOtherEnd, HasForm, GoesOn, OpensMessage, IsRefused, IsEndless}
use Rattle.subst_foreign.specs.Grammar.ClosesBraces.{nothing, byte, opening, closing}
use Rattle.subst_foreign.specs.Reading.{Token, IsFront, IsToken, token_text}
use Rattle.subst_foreign.specs.Reading as tokens
use Rattle.subst_foreign.specs.Text.{IsByte, IsWhole}
use Rattle.subst_foreign.specs.declared.forms.Forms.{Forms}
use Rattle.subst_foreign.specs.declared.forms.Forms.TheVariants as of
use Rattle.subst_foreign.specs.declared.forms.Operator.{Operator}
use Rattle.subst_foreign.specs.declared.forms.Operator.TheVariants as operator
use Rattle.subst_foreign.specs.declared.refused.ShellForm.{ShellForm}
use Rattle.subst_foreign.specs.declared.refused.ShellForm.TheVariants as form
use Rattle.subst_language.proofs.Language.ListLemmas.{first_same}
use Rattle.subst_language.proofs.Language.NameLemmas.{closing_no_name, question_mark_no_name, dollar_no_name, opening_no_name, name_byte_differs, name_bytes, split, split_unique}
use Rattle.subst_language.specs.Language.Bytes.{dollar, colon, question_mark, opening_brace, closing_brace}
use Rattle.subst_language.specs.Language.Name.{IsName, IsNameByte, BeginsWithNo}

-- the kind of the beginning of a text: two dollars; a dollar before name bytes, or none; `${` before name
-- bytes, or none; or anything else
data Kind : Type 0 where
  Two : List ℕ → Kind
  Bare : (run rest : List ℕ) → Kind
  Named : (run rest : List ℕ) → Kind
  Other : List ℕ → Kind

abbrev after_dollar : List ℕ → Kind
after_dollar [] = Bare [] []
after_dollar (b ∷ s) =
    cond (b == dollar) (Two s)
    (cond (b == opening_brace) (Named (split s).0 (split s).1) (Bare (split (b ∷ s)).0 (split (b ∷ s)).1))

abbrev kind : List ℕ → Kind
kind [] = Other []
kind (b ∷ s) = cond (b == dollar) (after_dollar s) (Other (b ∷ s))

-- a split after name bytes finds all of them
runs : (n x : List ℕ) → AllByRecursion IsNameByte n → BeginsWithNo IsNameByte x
    → ((split (n ++ x)).0 ≡ n) × ((split (n ++ x)).1 ≡ x)
runs n x each ends = search (rules, split_unique)

-- a dollar before neither a dollar nor an opening brace
kind-bare : (b : ℕ) (s : List ℕ) → b ≢ dollar → b ≢ opening_brace
    → kind (dollar ∷ b ∷ s) ≡ Bare (split (b ∷ s)).0 (split (b ∷ s)).1
kind-bare b s no_dollar no_brace = search (rules, ne_eqb)

kind-short : (n x : List ℕ) → IsName n → BeginsWithNo IsNameByte x → kind (dollar ∷ n ++ x) ≡ Bare n x
kind-short [] x named ends = absurd named
kind-short (b ∷ n) x named ends =
    let found = runs (b ∷ n) x named ends in
    kind-bare b (n ++ x) (name_byte_differs b dollar named.0 dollar_no_name)
    (name_byte_differs b opening_brace named.0 opening_no_name)
    ∙ cc (found.0, found.1)

kind-named : (n x : List ℕ) → IsName n → BeginsWithNo IsNameByte x → kind (in_braces n x) ≡ Named n x
kind-named n x named ends = let found = runs n x (name_bytes n named) ends in cc (found.0, found.1)

kind-braces : (n end x : List ℕ) → IsName n → BeginsWithNo IsNameByte (end ++ x)
    → kind (in_braces n end ++ x) ≡ Named n (end ++ x)
kind-braces n end x named ends = search (rules, append_assoc, kind-named)

-- the kind of a text that begins with this head
abbrev head_kind : Head → List ℕ → Kind
head_kind Dollar x = Two x
head_kind (Short n) x = Bare n x
head_kind (Braced n) x = Named n (closing_brace ∷ x)
head_kind (Optional n) x = Named n (question_mark ∷ closing_brace ∷ x)
head_kind (Opened n op) x = Named n (operator_text op ++ x)

is_name : (forms : Forms) (n : List ℕ) → IsNameOf forms n → IsName n
is_name of.Own n named = named
is_name _ n named = named.0

-- an operator doesn't begin with a name byte
operator_no_name : (op : Operator) (x : List ℕ) → BeginsWithNo IsNameByte (operator_text op ++ x)
operator_no_name operator.Default x = λ is. cc
operator_no_name _ x = λ is. cc

kind-head : (g : Grammar) (h : Head) (x : List ℕ) → IsHead g h x → kind (head_text h ++ x) ≡ head_kind h x
kind-head g Dollar x is = refl
kind-head g (Short n) x is = kind-short n x (is_name g.forms n is.0.0) is.1
kind-head g (Braced n) x is = search (rules, kind-braces, is_name, closing_no_name)
kind-head g (Optional n) x is =
    kind-braces n (question_mark ∷ closing_brace ∷ []) x (is_name g.forms n is.1.0) question_mark_no_name
kind-head g (Opened n op) x is = search (rules, kind-braces, is_name, operator_no_name)

-- a head, and the text after it
pub data Start : Type 0 where
  start : Head → List ℕ → Start

abbrev colon_start : List ℕ → List ℕ → Start
colon_start n [] = start Dollar []
colon_start n (b ∷ x) =
    cond (b == minus) (start (Opened n operator.ColonMinus) x)
    (cond (b == plus) (start (Opened n operator.ColonPlus) x) (start (Opened n operator.ColonQuestion) x))

abbrev named_start : Forms → List ℕ → List ℕ → Start
named_start forms n [] = start Dollar []
named_start of.Own n (b ∷ x) =
    cond (b == closing_brace) (start (Braced n) x)
    (cond (b == question_mark) (start (Optional n) (drop 1 x)) (start (Opened n operator.Default) x))
named_start forms n (b ∷ x) =
    cond (b == closing_brace) (start (Braced n) x)
    (cond (b == minus) (start (Opened n operator.Minus) x)
    (cond (b == plus) (start (Opened n operator.Plus) x)
    (cond (b == question_mark) (start (Opened n operator.Question) x) (colon_start n x))))

-- the head at the beginning of a text of this kind, if there is one
abbrev start_of : Forms → Kind → Start
start_of forms (Two x) = start Dollar x
start_of forms (Bare n x) = start (Short n) x
start_of forms (Named n x) = named_start forms n x
start_of forms (Other x) = start Dollar []

start-braced : (forms : Forms) (n x : List ℕ) → named_start forms n (closing_brace ∷ x) ≡ start (Braced n) x
start-braced of.Own n x = refl
start-braced _ n x = refl

start-opened : (forms : Forms) (op : Operator) (n x : List ℕ) → IsTrue (has_operator forms op)
    → named_start forms n (operator_text op ++ x) ≡ start (Opened n op) x
start-opened of.Own operator.Default n x has = refl
start-opened of.Own _ n x has = absurd cc
start-opened of.Envsubst _ n x has = absurd cc
start-opened of.Shell operator.Default n x has = absurd cc
start-opened of.Shell _ n x has = refl
start-opened of.Common operator.ColonMinus n x has = refl
start-opened of.Common operator.ColonQuestion n x has = refl
start-opened of.Common _ n x has = absurd cc

start-head : (g : Grammar) (h : Head) (x : List ℕ) → IsHead g h x → start_of g.forms (head_kind h x) ≡ start h x
start-head g Dollar x is = refl
start-head g (Short n) x is = refl
start-head g (Braced n) x is = start-braced g.forms n x
start-head g (Optional n) x is = rw is.0 refl
start-head g (Opened n op) x is = start-opened g.forms op n x is.0

-- a text begins with at most one head
pub head_unique : (g : Grammar) (h k : Head) (x y : List ℕ) → IsHead g h x → IsHead g k y
    → head_text h ++ x ≡ head_text k ++ y → start h x ≡ start k y
head_unique g h k x y is other same = search (rules, start-head, kind-head)

-- a text from its first brace on
abbrev first_brace : List ℕ → List ℕ
first_brace [] = []
first_brace (b ∷ s) = cond (b == opening_brace || b == closing_brace) (b ∷ s) (first_brace s)

first_brace-plain : (m x : List ℕ) → AllByRecursion IsNoBrace m → first_brace (m ++ x) ≡ first_brace x
first_brace-plain [] x each = refl
first_brace-plain (b ∷ m) x each =
    rw (ne_eqb b opening_brace each.0.0, ne_eqb b closing_brace each.0.1) (first_brace-plain m x each.1)

no_first_brace : (s : List ℕ) → AllByRecursion IsNoBrace s → first_brace s ≡ []
no_first_brace s each = ap first_brace (sym (append-nil s)) ∙ first_brace-plain s [] each

-- a text from the first closing brace on that closes neither one of d open braces nor one opened in the text
abbrev closing_at : ℕ → List ℕ → List ℕ
closing_at d [] = []
closing_at d (b ∷ s) =
    cond (b == closing_brace) (elim d [ zero ↦ b ∷ s | suc e ↦ closing_at e s ])
    (closing_at (cond (b == opening_brace) (suc d) d) s)

closing_at-message : (d : ℕ) (m x : List ℕ) → ClosesBraces d m
    → closing_at d (m ++ closing_brace ∷ x) ≡ closing_brace ∷ x
closing_at-message _ _ x nothing = refl
closing_at-message d _ x (byte {b = b} {m = m} none closes) =
    rw (ne_eqb b opening_brace none.0, ne_eqb b closing_brace none.1) (closing_at-message d m x closes)
closing_at-message d _ x (opening {m = m} closes) = closing_at-message (suc d) m x closes
closing_at-message (suc d) _ x (closing {m = m} closes) = closing_at-message d m x closes

-- a text begins with at most one message
message_end : (forms : Forms) (m k x y : List ℕ) → IsMessage forms m → IsMessage forms k
    → m ++ closing_brace ∷ x ≡ k ++ closing_brace ∷ y → closing_brace ∷ x ≡ closing_brace ∷ y
message_end of.Shell m k x y is other same =
    sym (closing_at-message 0 m x is) ∙ ap (closing_at 0) same ∙ closing_at-message 0 k y other
message_end _ m k x y is other same =
    sym (first_brace-plain m (closing_brace ∷ x) is) ∙ ap first_brace same
    ∙ first_brace-plain k (closing_brace ∷ y) other

pub message_unique : (forms : Forms) (m k x y : List ℕ) → IsMessage forms m → IsMessage forms k
    → m ++ closing_brace ∷ x ≡ k ++ closing_brace ∷ y → m ≡ k
message_unique forms m k x y is other same = search (rules, append_cancel_right, message_end)

-- a message is unclosed in one way
endless_unique : (forms : Forms) (f h : ShellForm) (x : List ℕ) → IsEndless forms f x → IsEndless forms h x
    → f ≡ h
endless_unique _ form.Unclosed form.Unclosed x is other = refl
endless_unique _ form.Message form.Message x is other = refl
endless_unique of.Shell form.Unclosed form.Message x is other = absurd other
endless_unique of.Shell form.Message form.Unclosed x is other = absurd is
endless_unique _ form.Unclosed form.Message x is (m, y, each, same) =
    let some = ap first_brace same ∙ first_brace-plain m (opening_brace ∷ y) each in
    absurd (cc (some, no_first_brace x is))
endless_unique _ form.Message form.Unclosed x (m, y, each, same) other =
    let some = ap first_brace same ∙ first_brace-plain m (opening_brace ∷ y) each in
    absurd (cc (some, no_first_brace x other))
endless_unique _ form.Unclosed _ x is other = absurd other
endless_unique _ form.Message _ x is other = absurd other
endless_unique _ _ _ x is other = absurd is

-- a message before its closing brace isn't unclosed
closed_ends : (forms : Forms) (f : ShellForm) (m x : List ℕ) → IsMessage forms m
    → ¬ (IsEndless forms f (m ++ closing_brace ∷ x))
closed_ends of.Shell form.Unclosed m x is never = never (m, x, is, refl)
closed_ends of.Shell form.Message m x is never = never
closed_ends _ form.Unclosed m x is never =
    cc (first_brace-plain m (closing_brace ∷ x) is, no_first_brace (m ++ closing_brace ∷ x) never)
closed_ends _ form.Message m x is (k, y, each, same) =
    let first = first_brace-plain k (opening_brace ∷ y) each in
    cc (first_brace-plain m (closing_brace ∷ x) is, first, ap first_brace same)
closed_ends _ _ m x is never = never

-- the form of the text after a name in braces
abbrev colon_form : List ℕ → ShellForm
colon_form [] = form.Colon
colon_form (b ∷ x) = cond (b == 61) form.ColonEquals (cond (b == plus) form.ColonPlus form.Colon)

abbrev form_of : List ℕ → ShellForm
form_of [] = form.Unclosed
form_of (b ∷ x) =
    cond (b == minus) form.Minus
    (cond (b == question_mark) form.Question
    (cond (b == 61) form.Equals
    (cond (b == plus) form.Plus
    (cond (b == 35) form.Hash
    (cond (b == 37) form.Percent
    (cond (b == 47) form.Slash
    (cond (b == colon) (colon_form x) form.Other)))))))

colon_form-colon : (x : List ℕ) → BeginsWithNone (codes "-?=+") x → colon_form x ≡ form.Colon
colon_form-colon [] none = refl
colon_form-colon (b ∷ x) none = rw (ne_eqb b 61 none.1.1.0) (rw (ne_eqb b plus none.1.1.1.0) refl)

form_of-other : (x : List ℕ) → HasForm form.Other x → form_of x ≡ form.Other
form_of-other [] has = absurd (has.0 refl)
form_of-other (b ∷ x) has = search (rules, ne_eqb)

form_of-form : (f : ShellForm) (x : List ℕ) → HasForm f x → form_of x ≡ f
form_of-form form.Unclosed x has = ap form_of has
form_of-form form.Colon x has = ap form_of has.1 ∙ colon_form-colon has.0 has.2
form_of-form form.Other x has = form_of-other x has
form_of-form form.Dollar x has = absurd has
form_of-form form.NoName x has = absurd has
form_of-form form.Message x has = absurd has
form_of-form form.Brace x has = absurd has
form_of-form _ x has = ap form_of has.1

-- a name in a shell
abbrev IsShells : List ℕ → Type 0
IsShells n = IsName n × IsShellName n

-- in a grammar that refuses other forms after `${`, a variable's name is one of a shell
shell_name : (forms : Forms) (all : Bool) (n : List ℕ) → IsTrue (is_whole forms all) → IsNameOf forms n
    → IsShells n
shell_name of.Own all n whole named = absurd cc
shell_name _ all n whole named = named

-- a text begins with a shell's name if its first byte is one
no_name_first : (x run rest : List ℕ) → x ≡ run ++ rest → BeginsWithNo (λ b. IsShells (b ∷ [])) x
    → ¬ (IsShells run)
no_name_first x [] rest same none named = named.0
no_name_first [] (c ∷ run) rest same none named = cc
no_name_first (b ∷ x) (c ∷ run) rest same none named = search (rules, first_same)

-- a refused form at the beginning of a text of this kind
data Refusal (g : Grammar) : ShellForm → Kind → Type 0 where
  brace : (x : List ℕ) → g.forms ≢ of.Shell → Refusal g form.Brace (Other (opening_brace ∷ x))
  lone : (run rest : List ℕ) → g.forms ≡ of.Common → ¬ (IsShells run) → Refusal g form.Dollar (Bare run rest)
  nameless : (run rest : List ℕ) → IsTrue (is_whole g.forms g.all) → ¬ (IsShells run)
      → Refusal g form.NoName (Named run rest)
  endless : (f : ShellForm) (n : List ℕ) (op : Operator) (x : List ℕ) → IsTrue (takes_message op)
      → IsHead g (Opened n op) x → IsEndless g.forms f x → Refusal g f (Named n (operator_text op ++ x))
  goes_on : (f : ShellForm) (n x : List ℕ) → IsTrue (is_whole g.forms g.all) → IsShells n → IsOtherEnd g.forms x
      → HasForm f x → Refusal g f (Named n x)

lone_dollar : (g : Grammar) (x : List ℕ) → g.forms ≡ of.Common → BeginsWithNo FollowsDollar x
    → Refusal g form.Dollar (kind (dollar ∷ x))
lone_dollar g [] common none = lone [] [] common (λ named. named.0)
lone_dollar g (b ∷ x) common none =
    rw (kind-bare b x (λ is. none (inl is)) (λ is. none (inr (inl is))))
    (lone _ _ common (no_name_first (b ∷ x) _ _ (split (b ∷ x)).2.parts (λ named. none (inr (inr named)))))

opens_message : (g : Grammar) (f : ShellForm) (P : List ℕ → Type 0) (s : List ℕ)
    → ((x : List ℕ) → P x → IsEndless g.forms f x) → OpensMessage g P s → Refusal g f (kind s)
opens_message g f P s ends (n, op, x, takes, is, spelled, holds) =
    rw (ap kind spelled ∙ kind-head g (Opened n op) x is) (endless f n op x takes is (ends x holds))

form_goes_on : (g : Grammar) (f : ShellForm) (s : List ℕ) → GoesOn g f s → Refusal g f (kind s)
form_goes_on g f s (whole, (n, x, named, first, spelled, stops, other_end, has)) =
    rw (ap kind spelled ∙ kind-named n x named stops) (goes_on f n x whole (named, first) other_end has)

refusal : (g : Grammar) (inside : Bool) (f : ShellForm) (s : List ℕ) → IsRefused g inside f s
    → Refusal g f (kind s)
refusal g inside form.Brace s (is, other, (x, spelled)) = rw (ap kind spelled) (brace x other)
refusal g inside form.Dollar s (common, (x, spelled, none)) = rw (ap kind spelled) (lone_dollar g x common none)
refusal g inside form.NoName s (whole, (x, spelled, none)) =
    rw (ap kind spelled) (nameless _ _ whole (no_name_first x _ _ (split x).2.parts none))
refusal g inside form.Message s (common, opens) = opens_message g _ _ s (λ x holds. rw common holds) opens
refusal g inside form.Unclosed s (inl opens) = opens_message g _ _ s (λ x holds. holds) opens
refusal g inside form.Unclosed s (inr goes) = form_goes_on g _ s goes
refusal g inside _ s goes = form_goes_on g _ s goes

-- a head before a message that isn't closed
abbrev EndsNever : Grammar → ShellForm → Start → Type 0
EndsNever g f (start (Opened n op) x) = IsTrue (takes_message op) × IsEndless g.forms f x
EndsNever g f (start _ x) = ⊥

-- if a text begins with a head, only its message is refused
refusal_head : (g : Grammar) (f : ShellForm) (k : Kind) (h : Head) (y : List ℕ) → Refusal g f k → IsHead g h y
    → k ≡ head_kind h y → EndsNever g f (start h y)
refusal_head g _ _ h y (endless f n op x takes is ends) other same = search (rules, start-head)
refusal_head g _ _ Dollar y (brace x other) is same = absurd cc
refusal_head g _ _ (Short n) y (lone m x common none) is same = search (rules, shell_name)
refusal_head g _ _ (Braced n) y (nameless m x whole none) is same = search (rules, shell_name)
refusal_head g _ _ (Optional n) y (nameless m x whole none) is same = search (rules, shell_name)
refusal_head g _ _ (Opened n op) y (nameless m x whole none) is same = search (rules, shell_name)
refusal_head g _ _ (Braced n) y (goes_on f m x whole named other_end has) is same = absurd (other_end.0 y cc)
refusal_head g _ _ (Optional n) y (goes_on f m x whole named other_end has) is same = search rules
refusal_head g _ _ (Opened n op) y (goes_on f m x whole named other_end has) is same = search rules
refusal_head g _ _ _ y _ is same = absurd cc

-- at the beginning of a text of a kind at most one form is refused
refusal_unique : (g : Grammar) (f h : ShellForm) (k l : Kind) → Refusal g f k → Refusal g h l → k ≡ l → f ≡ h
refusal_unique g _ h _ l (endless f n op x takes is ends) other same =
    endless_unique g.forms f h x ends (refusal_head g h l (Opened n op) x other is (sym same)).1
refusal_unique g f _ k _ other (endless h n op x takes is ends) same =
    endless_unique g.forms f h x (refusal_head g f k (Opened n op) x other is same).1 ends
refusal_unique g _ _ _ _ (brace x other) (brace y too) same = refl
refusal_unique g _ _ _ _ (lone n x common none) (lone m y too unnamed) same = refl
refusal_unique g _ _ _ _ (nameless n x whole none) (nameless m y too unnamed) same = refl
refusal_unique g _ _ _ _ (nameless n x whole none) (goes_on h m y too named other_end has) same = search rules
refusal_unique g _ _ _ _ (goes_on f n x whole named other_end has) (nameless m y too none) same = search rules
refusal_unique g _ _ _ _ (goes_on f n x whole named other_end has) (goes_on h m y too other none holds) same =
    search (rules, form_of-form)
refusal_unique g _ _ _ _ _ _ same = absurd cc

-- at the beginning of a text at most one form is refused
pub refused_unique : (g : Grammar) (inside : Bool) (f h : ShellForm) (s : List ℕ) → IsRefused g inside f s
    → IsRefused g inside h s → f ≡ h
refused_unique g inside f h s is other = search (rules, refusal_unique, refusal)

-- a refused form has one front
front_unique : (f : ShellForm) (front x other y : List ℕ) → IsFront f front x → IsFront f other y
    → front ++ x ≡ other ++ y → front ≡ other
front_unique form.Dollar front x other y is too same = is ∙ sym too
front_unique form.Brace front x other y is too same = is ∙ sym too
front_unique form.NoName front x other y is too same = is ∙ sym too
front_unique form.Unclosed front x other y is too same = search (rules, append-nil)
front_unique _ front x other y (n, named, stops, spelled) (m, called, ends, written) same =
    let fronts = ap (λ f. kind (f ++ x)) (sym spelled) ∙ ap kind same ∙ ap (λ f. kind (f ++ y)) written in
    let kinds = sym (kind-braces n [] x named stops) ∙ fronts ∙ kind-braces m [] y called ends in
    let names : n ≡ m = cc in
    spelled ∙ ap (λ n. in_braces n []) names ∙ sym written

-- a token that begins with a head: the head alone, with its operator, or with its message
data AfterHead (g : Grammar) : Token → List ℕ → Start → Type 0 where
  whole : (h : Head) (x : List ℕ) → IsWhole h → AfterHead g (tokens.Whole h) x (start h x)
  opens : (n : List ℕ) (op : Operator) (x : List ℕ) → takes_message op ≡ false
      → AfterHead g (tokens.Opens n op) x (start (Opened n op) x)
  required : (n : List ℕ) (op : Operator) (m x : List ℕ) → IsTrue (takes_message op) → IsMessage g.forms m
      → AfterHead g (tokens.Required n op m) x (start (Opened n op) (m ++ closing_brace ∷ x))

after_unique : (g : Grammar) (t u : Token) (x y : List ℕ) (k l : Start) → AfterHead g t x k → AfterHead g u y l
    → k ≡ l → t ≡ u
after_unique g _ _ _ _ _ _ (whole h x is) (whole k y too) same = cc
after_unique g _ _ _ _ _ _ (whole h x is) (opens n op y none) same = search rules
after_unique g _ _ _ _ _ _ (whole h x is) (required n op m y takes each) same = search rules
after_unique g _ _ _ _ _ _ (opens n op x none) (whole h y is) same = search rules
after_unique g _ _ _ _ _ _ (opens n op x none) (opens m op' y too) same = cc
after_unique g _ _ _ _ _ _ (opens n op x none) (required m op' k y takes each) same = absurd cc
after_unique g _ _ _ _ _ _ (required n op m x takes each) (whole h y is) same = search rules
after_unique g _ _ _ _ _ _ (required n op m x takes each) (opens k op' y none) same = absurd cc
after_unique g _ _ _ _ _ _ (required n op m x takes each) (required m' op' k y too all) same =
    cc (message_unique g.forms m k x y each all cc)

after_never : (g : Grammar) (f : ShellForm) (t : Token) (x : List ℕ) (k : Start) → AfterHead g t x k
    → ¬ (EndsNever g f k)
after_never g f _ _ _ (whole (Opened n op) x is) never = is
after_never g f _ _ _ (whole _ x is) never = never
after_never g f _ _ _ (opens n op x none) never = true≢false (sym never.0 ∙ none)
after_never g f _ _ _ (required n op m x takes each) never = closed_ends g.forms f m x each never.1

-- a token at the beginning of a text, and the text after it
data View (g : Grammar) (depth : ℕ) (s : List ℕ) : Token → List ℕ → Type 0 where
  a_byte : (b : ℕ) (x : List ℕ) → IsByte g (is_inside depth) b x → s ≡ b ∷ x
      → View g depth s (tokens.Byte b) x
  a_head : (t : Token) (x : List ℕ) (h : Head) (y : List ℕ) → IsHead g h y → s ≡ head_text h ++ y
      → AfterHead g t x (start h y) → View g depth s t x
  an_opening : (x : List ℕ) → 0 < depth → g.forms ≡ of.Shell → s ≡ opening_brace ∷ x
      → View g depth s tokens.Opening x
  a_closing : (x : List ℕ) → 0 < depth → s ≡ closing_brace ∷ x → View g depth s tokens.Closing x
  refused : (f : ShellForm) (front x : List ℕ) → IsRefused g (is_inside depth) f s → IsFront f front x
      → s ≡ front ++ x → View g depth s (tokens.Refused f front) x

view : (g : Grammar) (depth : ℕ) (t : Token) (x s : List ℕ) → IsToken g depth t x → s ≡ token_text t ++ x
    → View g depth s t x
view g depth (tokens.Byte b) x s is spelled = a_byte b x is spelled
view g depth (tokens.Whole h) x s is spelled =
    a_head (tokens.Whole h) x h x is.1 spelled (whole h x is.0)
view g depth (tokens.Opens n op) x s is spelled =
    a_head (tokens.Opens n op) x (Opened n op) x is.1 spelled (opens n op x is.0)
view g depth (tokens.Required n op m) x s is spelled =
    a_head (tokens.Required n op m) x (Opened n op) (m ++ closing_brace ∷ x) is.1
    (spelled ∙ append_assoc (head_text (Opened n op)) (m ++ closing_brace ∷ []) x
    ∙ ap (λ w. head_text (Opened n op) ++ w) (append_assoc m (closing_brace ∷ []) x))
    (required n op m x is.0 is.2)
view g depth tokens.Opening x s is spelled = an_opening x is.0 is.1 spelled
view g depth tokens.Closing x s is spelled = a_closing x is spelled
view g depth (tokens.Refused f front) x s is spelled =
    refused f front x (subst (IsRefused g (is_inside depth) f) (sym spelled) is.0) is.1 spelled

depth_inside : (depth : ℕ) → 0 < depth → IsTrue (is_inside depth)
depth_inside zero more = absurd (omega (arith, more))
depth_inside (suc depth) more = refl

-- a head begins with a dollar
head_dollar : (h : Head) (b : ℕ) (x y : List ℕ) → b ∷ x ≡ head_text h ++ y → b ≡ dollar
head_dollar Dollar b x y same = first_same same
head_dollar _ b x y same = first_same same

head_refused : (g : Grammar) (inside : Bool) (s : List ℕ) (t : Token) (x : List ℕ) (h : Head) (y : List ℕ)
    (f : ShellForm) → IsHead g h y → s ≡ head_text h ++ y → AfterHead g t x (start h y)
    → ¬ (IsRefused g inside f s)
head_refused g inside s t x h y f is spelled after bad =
    after_never g f t x (start h y) after
    (refusal_head g f (kind s) h y (refusal g inside f s bad) is (ap kind spelled ∙ kind-head g h y is))

brace_refused : (g : Grammar) (f : ShellForm) (b : ℕ) (x : List ℕ) (k : Kind) → Refusal g f k
    → k ≡ Other (b ∷ x) → (b ≡ opening_brace) × (g.forms ≢ of.Shell)
brace_refused g _ b x _ (brace y other) same = (cc, other)
brace_refused g _ b x _ _ same = absurd cc

opening_refused : (g : Grammar) (inside : Bool) (s x : List ℕ) (f : ShellForm) → g.forms ≡ of.Shell
    → s ≡ opening_brace ∷ x → ¬ (IsRefused g inside f s)
opening_refused g inside s x f shell spelled bad = search (rules, brace_refused, refusal)

-- a literal byte is no other token
byte_alone : (g : Grammar) (depth : ℕ) (s : List ℕ) (b : ℕ) (x : List ℕ) (u : Token) (y : List ℕ)
    → IsByte g (is_inside depth) b x → s ≡ b ∷ x → View g depth s u y → tokens.Byte b ≡ u
byte_alone g depth s b x _ _ is spelled (a_byte c y too written) = cc
byte_alone g depth s b x _ _ is spelled (a_head u y h z head written after) = search rules
byte_alone g depth s b x _ _ is spelled (an_opening y more shell written) = search rules
byte_alone g depth s b x _ _ is spelled (a_closing y more written) = search (rules, depth_inside, first_same)
byte_alone g depth s b x _ _ is spelled (refused f front y bad fronts written) = search rules

view_unique : (g : Grammar) (depth : ℕ) (s : List ℕ) (t : Token) (x : List ℕ) (u : Token) (y : List ℕ)
    → View g depth s t x → View g depth s u y → t ≡ u
view_unique g depth s _ _ u y (a_byte b x is spelled) other = byte_alone g depth s b x u y is spelled other
view_unique g depth s t x _ _ other (a_byte b y is spelled) =
    sym (byte_alone g depth s b y t x is spelled other)
view_unique g depth s _ _ _ _ (a_head t x h z is spelled after) (a_head u y k w too written next) =
    after_unique g t u x y (start h z) (start k w) after next (head_unique g h k z w is too (sym spelled ∙ written))
view_unique g depth s _ _ _ _ (a_head t x h z is spelled after) (an_opening y more shell written) =
    absurd (omega (arith, head_dollar h opening_brace y z (sym written ∙ spelled)))
view_unique g depth s _ _ _ _ (a_head t x h z is spelled after) (a_closing y more written) = search rules
view_unique g depth s _ _ _ _ (a_head t x h z is spelled after) (refused f front y bad fronts written) =
    absurd (head_refused g (is_inside depth) s t x h z f is spelled after bad)
view_unique g depth s _ _ _ _ (an_opening x more shell spelled) (a_head u y k w too written next) =
    absurd (omega (arith, head_dollar k opening_brace x w (sym spelled ∙ written)))
view_unique g depth s _ _ _ _ (an_opening x more shell spelled) (an_opening y also too written) = refl
view_unique g depth s _ _ _ _ (an_opening x more shell spelled) (a_closing y also written) = search rules
view_unique g depth s _ _ _ _ (an_opening x more shell spelled) (refused f front y bad fronts written) =
    absurd (opening_refused g (is_inside depth) s x f shell spelled bad)
view_unique g depth s _ _ _ _ (a_closing x more spelled) (a_head u y k w too written next) = search rules
view_unique g depth s _ _ _ _ (a_closing x more spelled) (an_opening y also too written) = search rules
view_unique g depth s _ _ _ _ (a_closing x more spelled) (a_closing y also written) = refl
view_unique g depth s _ _ _ _ (a_closing x more spelled) (refused f front y bad fronts written) = search rules
view_unique g depth s _ _ _ _ (refused f front x bad fronts spelled) (a_head u y k w too written next) =
    absurd (head_refused g (is_inside depth) s u y k w f too written next bad)
view_unique g depth s _ _ _ _ (refused f front x bad fronts spelled) (an_opening y more shell written) =
    absurd (opening_refused g (is_inside depth) s y f shell written bad)
view_unique g depth s _ _ _ _ (refused f front x bad fronts spelled) (a_closing y more written) = search rules
view_unique g depth s _ _ _ _ (refused f front x bad fronts spelled) (refused h other y too ends written) =
    search (rules, refused_unique, front_unique)

-- if two tokens begin the same text, they are equal, and so are the texts after them
pub same_token : (g : Grammar) (depth : ℕ) (t u : Token) (x y : List ℕ) → IsToken g depth t x
    → IsToken g depth u y → token_text t ++ x ≡ token_text u ++ y → (t ≡ u) × (x ≡ y)
same_token g depth t u x y is other same =
    let tokens =
    view_unique g depth (token_text t ++ x) t x u y (view g depth t x (token_text t ++ x) is refl)
    (view g depth u y (token_text t ++ x) other same) in
    (tokens, append_cancel_left (token_text t) x y (same ∙ ap (λ t. token_text t ++ y) (sym tokens)))
