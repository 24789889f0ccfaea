-- The first token of a text.
use Rattle.std.proofs.lemmas.Grind.{common_steps}
use Rattle.std.proofs.Common.{rules, ◌≡◌, ◌≢◌, ◌↔◌, inl, inr, Bool, true, false, IsTrue, ℕ, zero, suc, ◌<◌, ◌≤◌, ◌+◌, List, [], ◌∷◌, ◌++◌, length, get_or, take, drop, length-append, refl, sym, ap, ◌∙◌, subst, append_assoc, append-nil, arith}
use Rattle.std.proofs.lemmas.List.{drop_more, take_more, take-append-drop}
use Rattle.std.specs.List.{AllByRecursion}
use Rattle.subst_foreign.specs.Foreign.{IsShellName, is_inside}
use Rattle.subst_foreign.specs.Grammar.{BeginsWithNoHead, ClosesBraces, FollowsDollar, GoesOn, Grammar, Head, Dollar, Short, Braced, Optional, Opened, HasForm, IsEnd, IsEndless, IsHead, IsMessage, IsNameOf, IsNoBrace, IsRefused, IsStart, IsOtherEnd, IsVariable, NeverCloses, OpensMessage, has_operator, head_text, in_braces, is_whole, operator_text, takes_message}
use Rattle.subst_foreign.specs.Grammar.ClosesBraces.{nothing, byte, opening, closing}
use Rattle.subst_foreign.specs.Reading.{after_message, IsFront, IsInner, IsLone, IsStep}
use Rattle.subst_foreign.specs.Text.{IsByte}
use Rattle.subst_foreign.specs.declared.forms.Forms.{Forms}
use Rattle.subst_foreign.specs.declared.forms.Forms.TheVariants as of
use Rattle.subst_foreign.specs.declared.forms.Operator.{Operator}
use Rattle.subst_foreign.specs.declared.forms.Operator.TheVariants as operator
use Rattle.subst_foreign.specs.declared.refused.ShellForm.{ShellForm}
use Rattle.subst_foreign.specs.declared.refused.ShellForm.TheVariants as form
use Rattle.subst_foreign.specs.declared.token.End.{End as SeenEnd}
use Rattle.subst_foreign.specs.declared.token.End.TheVariants as ends
use Rattle.subst_foreign.specs.declared.token.Token.{Token as SeenToken}
use Rattle.subst_foreign.specs.declared.token.Token.TheVariants as seen
use Rattle.subst_language.proofs.Language.ListLemmas.{each_append, first_same, rest_same, no_element}
use Rattle.subst_language.proofs.Language.NameLemmas.{closing_no_name, question_mark_no_name, name_bytes, split_unique}
use Rattle.subst_language.specs.Language.Bytes.{dollar, question_mark, opening_brace, closing_brace}
use Rattle.subst_language.specs.Language.Name.{IsName, IsNameByte, BeginsWithNo}

-- after a byte of a message that isn't a brace, as many braces are open
no_brace_more : {d : ℕ} {m : List ℕ} → ClosesBraces d m → (b : ℕ) (x y : List ℕ) → IsNoBrace b
    → b ∷ x ≡ m ++ closing_brace ∷ y → (n : List ℕ) × ClosesBraces d n × (x ≡ n ++ closing_brace ∷ y)
no_brace_more nothing b x y none is = absurd (none.1 (first_same is))
no_brace_more (byte {m = n} other closes) b x y none is = (n, closes, rest_same is)
no_brace_more (opening closes) b x y none is = absurd (none.0 (first_same is))
no_brace_more (closing closes) b x y none is = absurd (none.1 (first_same is))

-- after an opening brace in a message, one more brace is open
one_more : {d : ℕ} {m : List ℕ} → ClosesBraces d m → (x y : List ℕ) → opening_brace ∷ x ≡ m ++ closing_brace ∷ y
    → (n : List ℕ) × ClosesBraces (suc d) n × (x ≡ n ++ closing_brace ∷ y)
one_more nothing x y is = absurd (omega (arith, first_same is))
one_more (byte {m = n} other closes) x y is = absurd (other.0 (sym (first_same is)))
one_more (opening {m = n} closes) x y is = (n, closes, rest_same is)
one_more (closing closes) x y is = absurd (omega (arith, first_same is))

-- after a closing brace in a message, one brace less is open
one_less : {d : ℕ} {m : List ℕ} → ClosesBraces (suc d) m → (x y : List ℕ)
    → closing_brace ∷ x ≡ m ++ closing_brace ∷ y
    → (n : List ℕ) × ClosesBraces d n × (x ≡ n ++ closing_brace ∷ y)
one_less (byte {m = n} other closes) x y is = absurd (other.1 (sym (first_same is)))
one_less (opening closes) x y is = absurd (omega (arith, first_same is))
one_less (closing {m = n} closes) x y is = (n, closes, rest_same is)

-- A message is read up to a byte, with this many of its braces open.
pub record IsInMessage (forms : Forms) (depth : ℕ) (front rest text : List ℕ) : Type 0 where
  pub few : depth ≤ length front
  pub plain : forms ≢ of.Shell → (depth ≡ 0) × AllByRecursion IsNoBrace front
  pub closes : (m : List ℕ) → ClosesBraces depth m → ClosesBraces 0 (front ++ m)
  pub goes_on : (m y : List ℕ) → ClosesBraces 0 m → text ≡ m ++ closing_brace ∷ y
      → (n : List ℕ) × ClosesBraces depth n × (rest ≡ n ++ closing_brace ∷ y)

-- a byte of a message that isn't a brace is read
pub message_byte : {forms : Forms} {depth : ℕ} {front rest text : List ℕ} (b : ℕ) → IsNoBrace b
    → IsInMessage forms depth front (b ∷ rest) text → IsInMessage forms depth (front ++ b ∷ []) rest text
message_byte {depth} {front} {rest} b none so_far =
    search (rules, length-append, each_append, append_assoc, byte, no_brace_more)

-- an opening brace in a shell's message is read
message_opening : {depth : ℕ} {front rest text : List ℕ}
    → IsInMessage of.Shell depth front (opening_brace ∷ rest) text
    → IsInMessage of.Shell (suc depth) (front ++ opening_brace ∷ []) rest text
message_opening {depth} {front} {rest} so_far =
    search (rules, length-append, append_assoc, opening, one_more)

-- a closing brace is read that closes one in the message
pub message_closing : {forms : Forms} {depth : ℕ} {front rest text : List ℕ}
    → IsInMessage forms (suc depth) front (closing_brace ∷ rest) text
    → IsInMessage forms depth (front ++ closing_brace ∷ []) rest text
message_closing {depth} {front} {rest} so_far =
    search (rules, length-append, append_assoc, closing, one_less)

-- a message is whole before its closing brace
pub message_whole : (forms : Forms) {front rest text : List ℕ} → IsInMessage forms 0 front rest text
    → IsMessage forms front
message_whole of.Shell {front} so_far = subst (ClosesBraces 0) (append-nil front) (so_far.closes [] nothing)
message_whole _ so_far = (so_far.plain (λ is. cc)).1

-- a message that is read to the end of the text is never closed
pub message_endless : (forms : Forms) {depth : ℕ} {front text : List ℕ} → front ≡ text
    → IsInMessage forms depth front [] text → NeverCloses forms text
message_endless of.Shell same so_far = search (rules, no_element)
message_endless _ same so_far = subst (AllByRecursion IsNoBrace) same (so_far.plain (λ is. cc)).1

-- the next byte of a message is that at the index
pub byte_next : (text : List ℕ) (at b : ℕ) {forms : Forms} {depth : ℕ} → at < length text → get_or text at 0 ≡ b
    → IsInMessage forms depth (take at text) (drop at text) text
    → IsInMessage forms depth (take at text) (b ∷ drop (at + 1) text) text
byte_next text at b {forms} {depth} below is = search (rules, drop_more)

-- one turn reads one byte of a message
pub message_turn : (text : List ℕ) (at b : ℕ) {forms : Forms} {depth next : ℕ} → at < length text
    → get_or text at 0 ≡ b
    → (IsInMessage forms depth (take at text) (b ∷ drop (at + 1) text) text
    → IsInMessage forms next (take at text ++ b ∷ []) (drop (at + 1) text) text)
    → IsInMessage forms depth (take at text) (drop at text) text
    → IsInMessage forms next (take (at + 1) text) (drop (at + 1) text) text
message_turn text at b {forms} {depth} {next} below is step so_far =
    grind (arith, common_steps, take_more, byte_next)

-- one turn reads an opening brace of a shell's message
pub message_more : (text : List ℕ) (at : ℕ) {forms : Forms} {depth next : ℕ} → next ≡ depth + 1
    → at < length text → get_or text at 0 ≡ opening_brace → forms ≡ of.Shell
    → IsInMessage forms depth (take at text) (drop at text) text
    → IsInMessage forms next (take (at + 1) text) (drop (at + 1) text) text
message_more text at {depth} {next} counts below is shell so_far =
    let one : suc depth ≡ next = omega (arith, counts) in
    subst (λ f. IsInMessage f next (take (at + 1) text) (drop (at + 1) text) text) (sym shell)
    (subst (λ d. IsInMessage of.Shell d (take (at + 1) text) (drop (at + 1) text) text) one
    (message_turn text at opening_brace below is message_opening
    (subst (λ f. IsInMessage f depth (take at text) (drop at text) text) shell so_far)))

-- a text is split around a byte
pub around_byte : (text : List ℕ) (at b : ℕ) → at < length text → get_or text at 0 ≡ b
    → text ≡ take at text ++ b ∷ drop (at + 1) text
around_byte text at b below is = search (rules, take-append-drop, drop_more)

-- a message of other forms than a shell's has an opening brace
pub message_opens : (forms : Forms) {depth : ℕ} {front text : List ℕ} (rest : List ℕ) → forms ≢ of.Shell
    → text ≡ front ++ opening_brace ∷ rest → IsInMessage forms depth front (opening_brace ∷ rest) text
    → IsEndless forms form.Message text
message_opens of.Shell rest differs splits so_far = absurd (differs refl)
message_opens _ {front} rest differs splits so_far = (front, rest, (so_far.plain differs).1, splits)

-- the name of a variable is a name
pub name_of : (forms : Forms) (n : List ℕ) → IsNameOf forms n → IsName n
name_of of.Own n named = named
name_of _ n named = named.0

-- an operator doesn't begin with a name byte
pub operator_ends : (op : Operator) (x : List ℕ) → BeginsWithNo IsNameByte (operator_text op ++ x)
operator_ends operator.Default x = λ is. cc
operator_ends _ x = λ is. cc

-- an operator doesn't begin with a closing brace
operator_differs : (op : Operator) (x y : List ℕ) → ¬ (operator_text op ++ x ≡ closing_brace ∷ y)
operator_differs operator.Default x y is = omega (arith, first_same is)
operator_differs _ x y is = omega (arith, first_same is)

-- the text after a name in braces may be appended later
pub braces_append : (n x y : List ℕ) → in_braces n x ++ y ≡ in_braces n (x ++ y)
braces_append n x y = ap (λ z. dollar ∷ opening_brace ∷ z) (append_assoc n x y)

-- a name in braces, and the text after it, are split in one way
same_braced : (n m x y : List ℕ) → AllByRecursion IsNameByte n → AllByRecursion IsNameByte m
    → BeginsWithNo IsNameByte x → BeginsWithNo IsNameByte y → in_braces n x ≡ in_braces m y → (n ≡ m) × (x ≡ y)
same_braced n m x y each all ended ends is = split_unique n m x y each all ended ends (rest_same (rest_same is))

-- a form is refused after a name in braces
name_refused : (g : Grammar) (depth : ℕ) (f : ShellForm) (n x : List ℕ)
    → IsRefused g (is_inside depth) f (in_braces n x) → IsFront f (in_braces n []) x
    → IsStep g depth (in_braces n x) (seen.Refused f) x
name_refused g depth f n x refused front = search (rules, braces_append)

-- if a brace never closes, the token reaches to the end of the text
never_closed : (g : Grammar) (depth : ℕ) (s : List ℕ) → IsRefused g (is_inside depth) form.Unclosed s
    → IsStep g depth s (seen.Refused form.Unclosed) []
never_closed g depth s refused =
    let taken : s ≡ s ++ [] = sym (append-nil s) in
    record {
      front = s;
      is = (subst (IsRefused g (is_inside depth) form.Unclosed) taken refused, refl);
      taken = taken;
    }

-- messages in other forms than a shell's are in common forms
takes_common : (forms : Forms) (op : Operator) → IsTrue (takes_message op) → IsTrue (has_operator forms op)
    → forms ≢ of.Shell → forms ≡ of.Common
takes_common of.Own operator.Question takes has differs = absurd cc
takes_common of.Own operator.ColonQuestion takes has differs = absurd cc
takes_common of.Own _ takes has differs = absurd cc
takes_common of.Envsubst op takes has differs = absurd cc
takes_common of.Shell op takes has differs = absurd (differs refl)
takes_common of.Common op takes has differs = refl

-- a message that is refused for an opening brace isn't in a shell's forms
message_common : (forms : Forms) (x : List ℕ) → IsEndless forms form.Message x
    → (forms ≢ of.Shell) × ((m y : List ℕ) × AllByRecursion IsNoBrace m × (x ≡ m ++ opening_brace ∷ y))
message_common of.Shell x endless = absurd endless
message_common _ x endless = ((λ is. cc), endless)

-- a message that isn't closed is refused
pub message_refused : (g : Grammar) (depth : ℕ) (f : ShellForm) (n after x : List ℕ) (op : Operator)
    → IsTrue (takes_message op) → IsHead g (Opened n op) x → after ≡ operator_text op ++ x
    → IsEndless g.forms f x → IsStep g depth (in_braces n after) (seen.Refused f) (after_message f after)
message_refused g depth f n after x op takes head is endless = of f endless
  where
    opens : in_braces n after ≡ head_text (Opened n op) ++ x
    opens = ap (in_braces n) is ∙ sym (braces_append n (operator_text op) x)

    named : IsName n
    named = name_of g.forms n head.1.0

    ended : BeginsWithNo IsNameByte after
    ended = subst (BeginsWithNo IsNameByte) (sym is) (operator_ends op x)

    of : (f : ShellForm) → IsEndless g.forms f x
        → IsStep g depth (in_braces n after) (seen.Refused f) (after_message f after)
    of form.Unclosed never =
        never_closed g depth (in_braces n after) (inl (n, op, x, takes, head, opens, never))
    of form.Message braces =
        let (differs, at) = message_common g.forms x braces in
        name_refused g depth form.Message n after
        (takes_common g.forms op takes head.0 differs, (n, op, x, takes, head, opens, at)) (n, named, ended, refl)
    of _ none = absurd none

-- with this end, the name isn't that of a variable
abbrev pub IsNotOf : Grammar → List ℕ → SeenEnd → Type 0
IsNotOf g n (ends.Closed x) = ¬ (IsVariable g false n)
IsNotOf g n (ends.Optional x) = ¬ (IsVariable g true n)
IsNotOf g n (ends.Operated op x) = ¬ (IsVariable g true n)
IsNotOf g n ends.Other = Unit {0}

-- a name that isn't a variable's before a closing brace
not_closed : (g : Grammar) (n after : List ℕ) (end : SeenEnd) → IsEnd g.forms after end → IsNotOf g n end
    → (x : List ℕ) → after ≡ closing_brace ∷ x → ¬ (IsVariable g false n)
not_closed g n after (ends.Closed y) at none x is named = none named
not_closed g n after (ends.Optional y) at none x is named = omega (arith, first_same (sym is ∙ at.1))
not_closed g n after (ends.Operated op y) at none x is named = operator_differs op y.now x (sym at.2 ∙ is)
not_closed g n after ends.Other at none x is named = at.0 x is

-- a name that isn't a variable's before a question mark and a closing brace
not_optional : (g : Grammar) (n after : List ℕ) (end : SeenEnd) → IsEnd g.forms after end → IsNotOf g n end
    → (x : List ℕ) → g.forms ≡ of.Own → after ≡ question_mark ∷ closing_brace ∷ x → ¬ (IsVariable g true n)
not_optional g n after (ends.Closed y) at none x own is named = omega (arith, first_same (sym is ∙ at))
not_optional g n after (ends.Optional y) at none x own is named = none named
not_optional g n after (ends.Operated op y) at none x own is named = none named
not_optional g n after ends.Other at none x own is named = at.1 own x is

-- a name that isn't a variable's before an operator
not_operated : (g : Grammar) (n after : List ℕ) (end : SeenEnd) → IsEnd g.forms after end → IsNotOf g n end
    → (op : Operator) (x : List ℕ) → IsTrue (has_operator g.forms op) → IsStart op x
    → after ≡ operator_text op ++ x → ¬ (IsVariable g true n)
not_operated g n after (ends.Closed y) at none op x has start is named = operator_differs op x y.now (sym is ∙ at)
not_operated g n after (ends.Optional y) at none op x has start is named = none named
not_operated g n after (ends.Operated other y) at none op x has start is named = none named
not_operated g n after ends.Other at none op x has start is named = at.2 op x has start is

-- no head begins with a name in braces that isn't a variable's with this end
pub no_braced_head : (g : Grammar) (n after : List ℕ) (end : SeenEnd) → AllByRecursion IsNameByte n
    → BeginsWithNo IsNameByte after → IsEnd g.forms after end → IsNotOf g n end
    → BeginsWithNoHead g (in_braces n after)
no_braced_head g n after end run ended at none Dollar x is head = omega (arith, first_same (rest_same is))
no_braced_head g n after end run ended at none (Short m) x is head = search rules
no_braced_head g n after end run ended at none (Braced m) x is head =
    let (same, rest) = same_braced n m after (closing_brace ∷ x) run (name_bytes m (name_of g.forms m head.0))
    ended closing_no_name (is ∙ braces_append m (closing_brace ∷ []) x) in
    not_closed g n after end at none x rest (subst (IsVariable g false) (sym same) head)
no_braced_head g n after end run ended at none (Optional m) x is (own, head) =
    let (same, rest) = same_braced n m after (question_mark ∷ closing_brace ∷ x) run
    (name_bytes m (name_of g.forms m head.0)) ended question_mark_no_name
    (is ∙ braces_append m (question_mark ∷ closing_brace ∷ []) x) in
    not_optional g n after end at none x own rest (subst (IsVariable g true) (sym same) head)
no_braced_head g n after end run ended at none (Opened m op) x is (has, head, start) =
    let (same, rest) = same_braced n m after (operator_text op ++ x) run
    (name_bytes m (name_of g.forms m head.0)) ended (operator_ends op x)
    (is ∙ braces_append m (operator_text op) x) in
    not_operated g n after end at none op x has start rest (subst (IsVariable g true) (sym same) head)

-- a dollar is no refused form if it begins no head and none of the forms that are refused after it
none_refused : (g : Grammar) (inside : Bool) (x : List ℕ) → BeginsWithNoHead g (dollar ∷ x)
    → (g.forms ≡ of.Common → ¬ (BeginsWithNo FollowsDollar x))
    → (IsTrue (is_whole g.forms g.all) → (y : List ℕ) → x ≡ opening_brace ∷ y
    → ¬ (BeginsWithNo (λ b. IsName (b ∷ []) × IsShellName (b ∷ [])) y))
    → ((f : ShellForm) → ¬ (GoesOn g f (dollar ∷ x)))
    → (f : ShellForm) → ¬ (IsRefused g inside f (dollar ∷ x))
none_refused g inside x none dollars names goes_on = of
  where
    opens : (P : List ℕ → Type 0) → ¬ (OpensMessage g P (dollar ∷ x))
    opens P (n, op, y, takes, head, is, holds) = none (Opened n op) y is head

    of : (f : ShellForm) → ¬ (IsRefused g inside f (dollar ∷ x))
    of form.Brace (within, differs, (y, is)) = omega (arith, first_same is)
    of form.Dollar (common, (y, is, follows)) =
        dollars common (subst (BeginsWithNo FollowsDollar) (sym (rest_same is)) follows)
    of form.NoName (whole, (y, is, nameless)) = names whole y (rest_same is) nameless
    of form.Message (common, message) = opens _ message
    of form.Unclosed (inl message) = opens _ message
    of form.Unclosed (inr goes) = goes_on form.Unclosed goes
    of f goes = goes_on f goes

-- a dollar that begins nothing is a literal byte
dollar_byte : (g : Grammar) (depth : ℕ) (x : List ℕ) → BeginsWithNoHead g (dollar ∷ x)
    → ((f : ShellForm) → ¬ (IsRefused g (is_inside depth) f (dollar ∷ x)))
    → IsStep g depth (dollar ∷ x) (seen.Byte dollar) x
dollar_byte g depth x none taken = search rules

-- in common forms, other forms after `${` are refused
common_whole : (forms : Forms) (all : Bool) → forms ≡ of.Common → IsTrue (is_whole forms all)
common_whole forms all common = subst (λ f. IsTrue (is_whole f all)) (sym common) refl

-- if other forms after `${` aren't refused, a dollar that begins no head is a literal byte
pub unread_dollar : (g : Grammar) (depth : ℕ) (x : List ℕ) → is_whole g.forms g.all ≡ false
    → BeginsWithNoHead g (dollar ∷ x) → IsStep g depth (dollar ∷ x) (seen.Byte dollar) x
unread_dollar g depth x unread none =
    search (rules, dollar_byte, none_refused, common_whole)

-- own forms refuse no other forms after `${`
whole_differs : (forms : Forms) (all : Bool) → IsTrue (is_whole forms all) → forms ≢ of.Own
whole_differs forms all whole own = let none = subst (λ f. IsTrue (is_whole f all)) own whole in cc

-- in other forms than own ones, any text may follow an operator
started : (forms : Forms) (op : Operator) (x : List ℕ) → forms ≢ of.Own → IsTrue (has_operator forms op)
    → IsStart op x
started of.Own op x differs has = absurd (differs refl)
started of.Envsubst op x differs has = absurd cc
started of.Shell operator.Default x differs has = absurd cc
started of.Common operator.Default x differs has = absurd cc
started _ _ x differs has = tt

-- if other forms after `${` are refused, a text may not follow a name if it doesn't end a variable
other_ends : (forms : Forms) (all : Bool) (x : List ℕ) → IsTrue (is_whole forms all)
    → IsOtherEnd forms x ↔ IsEnd forms x ends.Other
other_ends forms all x whole = search (rules, whole_differs, started)

-- name bytes that aren't a shell's name don't begin with one
no_shell_name : (n x : List ℕ) → AllByRecursion IsNameByte n → BeginsWithNo IsNameByte x
    → ¬ (IsName n × IsShellName n) → BeginsWithNo (λ b. IsName (b ∷ []) × IsShellName (b ∷ [])) (n ++ x)
no_shell_name [] [] run ended none = tt
no_shell_name [] (b ∷ x) run ended none = λ first. ended first.0.0
no_shell_name (b ∷ n) x run ended none = λ first. none (run, first.1)

-- name bytes that are a shell's name begin with one
shell_name : (n x : List ℕ) → IsName n → IsShellName n
    → ¬ (BeginsWithNo (λ b. IsName (b ∷ []) × IsShellName (b ∷ [])) (n ++ x))
shell_name [] x named shell = absurd named
shell_name (b ∷ n) x named shell = λ none. none ((named.0, tt), shell)

-- `${` before no name of a shell is refused
pub nameless : (g : Grammar) (depth : ℕ) (n x : List ℕ) → IsTrue (is_whole g.forms g.all)
    → AllByRecursion IsNameByte n → BeginsWithNo IsNameByte x → ¬ (IsName n × IsShellName n)
    → IsStep g depth (in_braces n x) (seen.Refused form.NoName) (n ++ x)
nameless g depth n x whole run ended none = search (rules, no_shell_name)

-- a dollar is literal before a brace, a name that isn't chosen, and the end of a variable
pub fit_dollar : (g : Grammar) (depth : ℕ) (n x : List ℕ) → IsTrue (is_whole g.forms g.all) → IsName n
    → IsShellName n → BeginsWithNo IsNameByte x → ¬ (IsEnd g.forms x ends.Other)
    → BeginsWithNoHead g (in_braces n x)
    → IsStep g depth (in_braces n x) (seen.Byte dollar) (opening_brace ∷ n ++ x)
fit_dollar g depth n x whole named shell ended fit none =
    dollar_byte g depth (opening_brace ∷ n ++ x) none
    (none_refused g (is_inside depth) (opening_brace ∷ n ++ x) none
    (λ common follows. follows (inr (inl refl)))
    (λ _ y is nameless. shell_name n x named shell
    (subst (BeginsWithNo (λ b. IsName (b ∷ []) × IsShellName (b ∷ []))) (sym (rest_same is)) nameless))
    fits)
  where
    fits : (f : ShellForm) → ¬ (GoesOn g f (in_braces n x))
    fits f (_, (m, y, other, _, is, ends, other_end, _)) =
        let same : x ≡ y = (same_braced n m x y (name_bytes n named) (name_bytes m other) ended ends is).1 in
        fit ((other_ends g.forms g.all x whole).0 (subst (IsOtherEnd g.forms) (sym same) other_end))

-- a text that may not follow a name is refused by its form
pub other_end_refused : (g : Grammar) (depth : ℕ) (n x : List ℕ) (f : ShellForm) → IsTrue (is_whole g.forms g.all)
    → IsName n → IsShellName n → BeginsWithNo IsNameByte x → IsEnd g.forms x ends.Other → HasForm f x
    → IsStep g depth (in_braces n x) (seen.Refused f) x
other_end_refused g depth n x f whole named shell ended end has = of f has
  where
    goes_on : (f : ShellForm) → HasForm f x → GoesOn g f (in_braces n x)
    goes_on f has =
        (whole, (n, x, named, shell, refl, ended, (other_ends g.forms g.all x whole).1 end, has))

    front : (m : List ℕ) × IsName m × BeginsWithNo IsNameByte x × (in_braces n [] ≡ in_braces m [])
    front = (n, named, ended, refl)

    of : (f : ShellForm) → HasForm f x → IsStep g depth (in_braces n x) (seen.Refused f) x
    of form.Dollar has = absurd has
    of form.NoName has = absurd has
    of form.Message has = absurd has
    of form.Brace has = absurd has
    of form.Unclosed has =
        subst (IsStep g depth (in_braces n x) (seen.Refused form.Unclosed)) (sym has)
        (never_closed g depth (in_braces n x) (inr (goes_on form.Unclosed has)))
    of f has = name_refused g depth f n x (goes_on f has) front

-- no head begins with a dollar before neither a dollar, a variable's name nor an opening brace
no_lone_head : (g : Grammar) (n x : List ℕ) → AllByRecursion IsNameByte n → BeginsWithNo IsNameByte x
    → (IsTrue (is_whole g.forms g.all) → (y : List ℕ) → ¬ (n ++ x ≡ dollar ∷ y)) → ¬ (IsVariable g false n)
    → ((y : List ℕ) → ¬ (n ++ x ≡ opening_brace ∷ y)) → BeginsWithNoHead g (dollar ∷ n ++ x)
no_lone_head g n x run ended one none brace Dollar y is head = one head y (rest_same is)
no_lone_head g n x run ended one none brace (Short m) y is head =
    search (rules, split_unique, name_bytes, name_of, rest_same)
no_lone_head g n x run ended one none brace (Braced m) y is head = search (rules, rest_same)
no_lone_head g n x run ended one none brace (Optional m) y is head = search rules
no_lone_head g n x run ended one none brace (Opened m op) y is head = search (rules, rest_same)

-- no byte follows that forms something with a dollar
no_follower : (n x : List ℕ) → ((y : List ℕ) → ¬ (n ++ x ≡ dollar ∷ y))
    → ((y : List ℕ) → ¬ (n ++ x ≡ opening_brace ∷ y))
    → BeginsWithNo (λ b. IsName (b ∷ []) × IsShellName (b ∷ [])) (n ++ x) → BeginsWithNo FollowsDollar (n ++ x)
no_follower n x = search rules

-- the first byte of a shell's name forms something with a dollar
follows : (n x : List ℕ) → IsName n × IsShellName n → ¬ (BeginsWithNo FollowsDollar (n ++ x))
follows [] x named = λ none. named.0
follows (b ∷ n) x named = λ none. none (inr (inr ((named.0.0, tt), named.1)))

-- a dollar that begins no variable, without a brace after it
pub lone_step : (g : Grammar) (depth : ℕ) (n x : List ℕ) (t : SeenToken) → AllByRecursion IsNameByte n
    → BeginsWithNo IsNameByte x → (IsTrue (is_whole g.forms g.all) → (y : List ℕ) → ¬ (n ++ x ≡ dollar ∷ y))
    → ¬ (IsVariable g false n) → ((y : List ℕ) → ¬ (n ++ x ≡ opening_brace ∷ y)) → IsLone g.forms n t
    → IsStep g depth (dollar ∷ n ++ x) t (n ++ x)
lone_step g depth n x t run ended one none brace = of t
  where
    no_head : BeginsWithNoHead g (dollar ∷ n ++ x)
    no_head = no_lone_head g n x run ended one none brace

    of : (t : SeenToken) → IsLone g.forms n t → IsStep g depth (dollar ∷ n ++ x) t (n ++ x)
    of (seen.Byte b) (is, named) =
        subst (λ c. IsStep g depth (dollar ∷ n ++ x) (seen.Byte c) (n ++ x)) (sym is)
        (dollar_byte g depth (n ++ x) no_head (none_refused g (is_inside depth) (n ++ x) no_head
        (λ common. follows n x (named common)) (λ _ y begins. absurd (brace y begins))
        (λ f (_, (m, y, _, _, begins, _, _, _)). brace (m ++ y) (rest_same begins))))
    of (seen.Refused f) (common, is, nameless) =
        let whole = common_whole g.forms g.all common in
        subst (λ c. IsStep g depth (dollar ∷ n ++ x) (seen.Refused c) (n ++ x)) (sym is)
        (record {
          front = dollar ∷ [];
          is = (
            (common, (n ++ x, refl, no_follower n x (one whole) brace (no_shell_name n x run ended nameless))),
            refl,
          );
          taken = refl;
        })
    of _ none = absurd none

-- a head begins with a dollar
pub head_first : (h : Head) (b : ℕ) (x y : List ℕ) → b ∷ x ≡ head_text h ++ y → b ≡ dollar
head_first Dollar b x y is = first_same is
head_first _ b x y is = first_same is

-- a byte is literal if it isn't a dollar, and inside a default isn't a brace
pub plain_byte : (g : Grammar) (inside : Bool) (b : ℕ) (x : List ℕ) → b ≢ dollar → (IsTrue inside → IsNoBrace b)
    → IsByte g inside b x
plain_byte g inside b x differs none = search (rules, head_first, first_same)

-- at a depth above 0 a default is open
pub depth_inside : (depth : ℕ) → 0 < depth → IsTrue (is_inside depth)
depth_inside zero more = absurd (omega (arith, more))
depth_inside (suc depth) more = refl

-- at depth 0 no default is open
outside : (depth : ℕ) → depth ≡ 0 → ¬ (IsTrue (is_inside depth))
outside zero closed is = cc
outside (suc depth) closed is = absurd (omega (arith, closed))

-- the token of a byte that isn't a dollar, outside of defaults
pub outer_step : (g : Grammar) (depth b : ℕ) (x : List ℕ) → b ≢ dollar → depth ≡ 0
    → IsStep g depth (b ∷ x) (seen.Byte b) x
outer_step g depth b x differs closed = search (rules, plain_byte, outside)

-- the token of a byte that isn't a dollar, inside a default
pub inner_step : (g : Grammar) (depth b : ℕ) (x : List ℕ) (t : SeenToken) → b ≢ dollar → 0 < depth
    → IsInner g.forms b t → IsStep g depth (b ∷ x) t x
inner_step g depth b x (seen.Byte c) differs more (is, none) =
    grind (arith, common_steps, plain_byte g (is_inside depth) b x differs (λ within. none), is_inside depth)
inner_step g depth b x seen.Opening differs more (is, shell) = search rules
inner_step g depth b x seen.Closing differs more is = search rules
inner_step g depth b x (seen.Refused f) differs more (is, other, brace) =
    subst (λ r. IsStep g depth (b ∷ x) (seen.Refused r) x) (sym brace) (record {
      front = opening_brace ∷ [];
      is = ((depth_inside depth more, other, (x, refl)), refl);
      taken = ap (λ c. c ∷ x) is;
    })
inner_step g depth b x _ differs more none = absurd none
