-- Texts of envsubst: none is refused, and of the choice only its names matter.
use Rattle.std.proofs.Common.{rules, ◌≡◌, ◌∙◌, ◌↔◌, inl, inr, Bool, true, false, ℕ, List, [], ◌∷◌, ◌++◌, IsTrue, IfOk, Result, Ok, Err, refl, sym, subst, arith}
use Rattle.subst_foreign.specs.Grammar.{Grammar, Head, grammar, has_operator, IsChosen, IsHead, IsRefused, OpensMessage}
use Rattle.subst_foreign.specs.Grammar as head
use Rattle.subst_foreign.specs.Reading.{Byte, Closing, Opening, Opens, Refused, Required, Whole, Reading}
use Rattle.subst_foreign.specs.Reading.Reading.{ended, token}
use Rattle.subst_foreign.specs.Template.{IsTemplate}
use Rattle.subst_foreign.specs.Text.{Item, Text, IsByte, IsItem, IsText}
use Rattle.subst_foreign.specs.Text as foreign
use Rattle.subst_foreign.specs.declared.forms.Forms.{Forms}
use Rattle.subst_foreign.specs.declared.forms.Forms.TheVariants as of
use Rattle.subst_foreign.specs.declared.forms.Missing.{Missing}
use Rattle.subst_foreign.specs.declared.forms.Operator.{Operator}
use Rattle.subst_foreign.specs.declared.refused.FormAt.{FormAt}
use Rattle.subst_foreign.specs.declared.refused.ShellForm.{ShellForm}
use Rattle.subst_foreign.specs.declared.refused.ShellForm.TheVariants as form
use Rattle.subst_language.specs.Language.Bytes.{closing_brace}

-- a grammar of envsubst's forms
abbrev IsEnvsubst : Grammar → Type 0
IsEnvsubst g = g.forms ≡ of.Envsubst

-- envsubst's forms have no operator
no_operator : (g : Grammar) → IsEnvsubst g → (op : Operator) → ¬ (IsTrue (has_operator g.forms op))
no_operator g is op has = let e = subst (λ f. IsTrue (has_operator f op)) is has in absurd cc

-- outside of defaults nothing is refused
nothing_refused : (g : Grammar) → IsEnvsubst g → (f : ShellForm) (s : List ℕ) → ¬ (IsRefused g false f s)
nothing_refused g is form.Brace s refused = absurd cc
nothing_refused g is form.Dollar s refused = let e = sym is ∙ refused.0 in absurd cc
nothing_refused g is form.NoName s refused = cc
nothing_refused g is form.Message s refused = let e = sym is ∙ refused.0 in absurd cc
nothing_refused g is form.Unclosed s (inl refused) = no_operator g is refused.1 refused.4.0
nothing_refused g is form.Unclosed s (inr refused) = cc
nothing_refused g is f s refused = let e = subst (λ f. IsTrue (head.is_whole f g.all)) is refused.0 in absurd cc

-- no text of envsubst is refused
pub none_refused : (g : Grammar) → IsEnvsubst g → {o p : ℕ} {s : List ℕ} {refused : List FormAt}
    → Reading g o p 0 s refused → refused ≡ []
none_refused g is ended = refl
none_refused g is (token (Byte b) x fits more) = none_refused g is more
none_refused g is (token (Whole h) x fits more) = none_refused g is more
none_refused g is (token (Opens n op) x fits more) = absurd (no_operator g is op fits.1.0)
none_refused g is (token (Required n op m) x fits more) = none_refused g is more
none_refused g is (token Opening x fits more) = absurd (omega (arith, fits.0))
none_refused g is (token Closing x fits more) = none_refused g is more
none_refused g is (token (Refused f front) x fits more) = absurd (nothing_refused g is f (front ++ x) fits.0)

-- two choices of the same names
abbrev pub AreSame : (A B : Bool → List ℕ → Type 0) → Type 0
AreSame A B = (operated : Bool) (n : List ℕ) → A operated n ↔ B operated n

-- two choices of the same names choose the same names
same_chosen : (all : Bool) (A B : Bool → List ℕ → Type 0) → AreSame A B → (operated : Bool) (n : List ℕ)
    → IsChosen all A operated n → IsChosen all B operated n
same_chosen true A B same operated n is = tt
same_chosen false A B same operated n is = (same operated n).0 is

other : {A B : Bool → List ℕ → Type 0} → AreSame A B → AreSame B A
other same operated n = ((same operated n).1, (same operated n).0)

-- grammars with the same names have the same heads
same_head : (f : Forms) (all : Bool) (A B : Bool → List ℕ → Type 0) → AreSame A B → (h : Head) (x : List ℕ)
    → IsHead (grammar f all A) h x → IsHead (grammar f all B) h x
same_head f all A B same head.Dollar x is = is
same_head f all A B same (head.Short n) x is = ((is.0.0, same_chosen all A B same false n is.0.1), is.1)
same_head f all A B same (head.Braced n) x is = (is.0, same_chosen all A B same false n is.1)
same_head f all A B same (head.Optional n) x is = (is.0, (is.1.0, same_chosen all A B same true n is.1.1))
same_head f all A B same (head.Opened n op) x is = search (rules, same_chosen)

same_opens : (f : Forms) (all : Bool) (A B : Bool → List ℕ → Type 0) → AreSame A B → (P : List ℕ → Type 0)
    (s : List ℕ) → OpensMessage (grammar f all A) P s → OpensMessage (grammar f all B) P s
same_opens f all A B same P s (n, op, x, message, is, taken, rest) = search (rules, same_head)

-- grammars with the same names have the same refused forms
same_refused : (f : Forms) (all : Bool) (A B : Bool → List ℕ → Type 0) → AreSame A B → (inside : Bool)
    (form : ShellForm) (s : List ℕ) → IsRefused (grammar f all A) inside form s
    → IsRefused (grammar f all B) inside form s
same_refused f all A B same inside form.Brace s is = is
same_refused f all A B same inside form.Dollar s is = is
same_refused f all A B same inside form.NoName s is = is
same_refused f all A B same inside form.Message s is = (is.0, same_opens f all A B same _ s is.1)
same_refused f all A B same inside form.Unclosed s (inl is) = inl (same_opens f all A B same _ s is)
same_refused f all A B same inside form.Unclosed s (inr is) = inr is
same_refused f all A B same inside refused s is = is

mutual
  -- grammars with the same names have the same texts
  same_item : (f : Forms) (all : Bool) (A B : Bool → List ℕ → Type 0) → AreSame A B → (inside : Bool) (item : Item)
      (x : List ℕ) → IsItem (grammar f all A) inside item x → IsItem (grammar f all B) inside item x
  same_item f all A B same inside (foreign.Byte b) x is = record {
    no_head = λ h y taken found. is.no_head h y taken (same_head f all B A (other same) h y found);
    taken = λ form refused. is.taken form (same_refused f all B A (other same) inside form (b ∷ x) refused);
    no_brace = is.no_brace;
  }
  same_item f all A B same inside (foreign.Whole h) x is = (is.0, same_head f all A B same h x is.1)
  same_item f all A B same inside (foreign.Operated n op t) x is = (
    is.0,
    same_head f all A B same (head.Opened n op) _ is.1,
    same_text f all A B same true t (closing_brace ∷ x) is.2,
  )
  same_item f all A B same inside (foreign.Required n op m) x is =
      (is.0, same_head f all A B same (head.Opened n op) _ is.1, is.2)
  same_item f all A B same inside (foreign.Group t) x is =
      (is.0, is.1, same_text f all A B same true t (closing_brace ∷ x) is.2)

  same_text : (f : Forms) (all : Bool) (A B : Bool → List ℕ → Type 0) → AreSame A B → (inside : Bool) (t : Text)
      (x : List ℕ) → IsText (grammar f all A) inside t x → IsText (grammar f all B) inside t x
  same_text f all A B same inside foreign.Empty x is = tt
  same_text f all A B same inside (foreign.Then item rest) x is =
      (same_item f all A B same inside item _ is.0, same_text f all A B same inside rest x is.1)

-- a template that was returned, if any, is one for the same names
pub same_names : {X E : Type 0} (f : Forms) (all : Bool) (A B : Bool → List ℕ → Type 0) (unset : Missing)
    (s : List ℕ) (bytes : X → List ℕ) (r : Result X E) → AreSame A B
    → IfOk r (λ t. IsTemplate (grammar f all A) unset s (bytes t))
    → IfOk r (λ t. IsTemplate (grammar f all B) unset s (bytes t))
same_names f all A B unset s bytes (Ok t) same is = record {
  items = is.items;
  read = same_text f all A B same false is.items [] is.read;
  spelled = is.spelled;
  tree = is.tree;
  spells = is.spells;
  gives = is.gives;
  names = is.names;
}
same_names f all A B unset s bytes (Err e) same is = tt
