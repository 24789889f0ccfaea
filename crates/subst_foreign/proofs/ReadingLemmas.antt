-- Texts that are read token by token, and their templates.
use Rattle.std.proofs.Common.{rules, ◌≡◌, ◌-◌, inl, inr, Bool, true, false, ℕ, ◌+◌, ◌<◌, ◌≤◌, zero, suc, List, [], ◌∷◌, ◌++◌, length, take, Some, None, refl, sym, ap, ◌∙◌, subst, append_assoc, append-nil, length-append, arith}
use Rattle.std.proofs.lemmas.Bool.Decides.{nat_tests}
use Rattle.std.proofs.Math.Seq.{take-append_seam}
use Rattle.std.proofs.lemmas.Str.{IsUtf8-append, IsUtf8-nil}
use Rattle.std.specs.List.{AllByRecursion}
use Rattle.std.specs.Str.{IsUtf8}
use Rattle.subst_foreign.proofs.TemplateLemmas.{plain_case, template_name_is_name, text_fits, text_means, text_names}
use Rattle.subst_foreign.proofs.TokenLemmas.{braces_append, name_of, plain_byte}
use Rattle.subst_foreign.specs.Foreign.{is_inside}
use Rattle.subst_foreign.specs.Grammar.{Grammar, Head, Opened, head_text, has_operator, in_braces, is_whole, operator_text, takes_message, BeginsWithNoHead, GoesOn, IsHead, IsMessage, IsNoBrace, IsRefused}
use Rattle.subst_foreign.specs.Grammar as head
use Rattle.subst_foreign.specs.Reading.{Token, Byte, Closing, Opening, Opens, Refused, Required, Whole, IsAfterPlain, IsConverted, IsPlainAt, IsToken, Reading, depth_after, left_open, outermost_at, part, refused_at, token_text}
use Rattle.subst_foreign.specs.Reading.Reading.{ended, token, unclosed}
use Rattle.subst_foreign.specs.Template.{is_escaped, item_of_byte, item_of_head, plain_item, template_name, tree_before, tree_of, IsTemplate}
use Rattle.subst_foreign.specs.Text.{Item, Text, IsByte, IsItem, IsText, item_spelling, spelling}
use Rattle.subst_foreign.specs.Text as foreign
use Rattle.subst_foreign.specs.declared.forms.Forms.{Forms}
use Rattle.subst_foreign.specs.declared.forms.Forms.TheVariants as of
use Rattle.subst_foreign.specs.declared.forms.Missing.{Missing}
use Rattle.subst_foreign.specs.declared.forms.Operator.{Operator}
use Rattle.subst_foreign.specs.declared.forms.Operator.TheVariants as operator
use Rattle.subst_foreign.specs.Question.{value_of}
use Rattle.subst_foreign.specs.declared.refused.FormAt.{FormAt}
use Rattle.subst_foreign.specs.declared.refused.ShellForm.TheVariants as form
use Rattle.subst_language.proofs.Language.ListLemmas.{each_append}
use Rattle.subst_language.proofs.Language.NameLemmas.{name_byte_ascii, name_bytes}
use Rattle.subst_language.proofs.Language.TreeLemmas.{text-join}
use Rattle.subst_language.proofs.Language.Utf8Lemmas.{after_ascii, ascii_alone, cut_at}
use Rattle.subst_language.specs.Language.Bytes.{backslash, closing_brace, colon, dollar, opening_brace, question_mark}
use Rattle.subst_language.specs.Language.Name.{IsName, IsNameByte}
use Rattle.subst_language.specs.Language.Tree.{Braced, Default, Empty, Optional, Plain, Short, Then, Tree, item_text, text}
use Rattle.subst_language.specs.Language.Tree as template

-- the rest of a text at this depth, and the rest of its template: a text that ends each open one
abbrev pub IsRest : Grammar → Missing → ℕ → List ℕ → List ℕ → Type 0
IsRest g unset zero s y =
    (t : Text) × IsText g false t [] × (s ≡ spelling t) × (y ≡ text (tree_of g.forms unset t))
IsRest g unset (suc depth) s y = (t : Text) × (x z : List ℕ) × IsText g true t (closing_brace ∷ x)
    × (s ≡ spelling t ++ closing_brace ∷ x) × (y ≡ text (tree_of g.forms unset t) ++ closing_brace ∷ z)
    × IsRest g unset depth x z

-- an item before the rest, with its spelling in the template
rest_item : (g : Grammar) (unset : Missing) (depth : ℕ) (item : Item) (written x y : List ℕ)
    → IsItem g (is_inside depth) item x
    → ((next : Tree) → text (tree_before g.forms unset item next) ≡ written ++ text next)
    → IsRest g unset depth x y → IsRest g unset depth (item_spelling item ++ x) (written ++ y)
rest_item g unset zero item written x y is writes (t, read, spelled, source) = (
  foreign.Then item t,
  (subst (IsItem g false item) (spelled ∙ sym (append-nil (spelling t))) is, read),
  ap (λ z. item_spelling item ++ z) spelled,
  ap (λ z. written ++ z) source ∙ sym (writes (tree_of g.forms unset t)),
)
rest_item g unset (suc depth) item written x y is writes (t, x', y', read, spelled, source, rest) = (
  foreign.Then item t,
  x',
  y',
  (subst (IsItem g true item) spelled is, read),
  ap (λ z. item_spelling item ++ z) spelled
      ∙ sym (append_assoc (item_spelling item) (spelling t) (closing_brace ∷ x')),
  ap (λ z. written ++ z) source
      ∙ sym (ap (λ z. z ++ closing_brace ∷ y') (writes (tree_of g.forms unset t))
      ∙ append_assoc written (text (tree_of g.forms unset t)) (closing_brace ∷ y')),
  rest,
)

-- an operator before the rest opens a text
rest_opened : (g : Grammar) (unset : Missing) (depth : ℕ) (n : List ℕ) (op : Operator) (x y : List ℕ)
    → takes_message op ≡ false → IsHead g (Opened n op) x → IsRest g unset (suc depth) x y
    → IsRest g unset depth (head_text (Opened n op) ++ x)
    (in_braces (template_name g.forms (Some op) n) (colon ∷ []) ++ y)
rest_opened g unset depth n op x y opens is (t, x', y', read, spelled, source, rest) =
    let asks = template_name g.forms (Some op) n in
    let inner = text (tree_of g.forms unset t) in
    let written = in_braces asks (colon ∷ inner ++ closing_brace ∷ []) in
    let whole = rest_item g unset depth (foreign.Operated n op t) written x' y'
    (opens, subst (IsHead g (Opened n op)) spelled is, read) (λ next. refl) rest in
    let texts : head_text (Opened n op) ++ x ≡ item_spelling (foreign.Operated n op t) ++ x' =
    rw spelled (sym (append_assoc (head_text (Opened n op)) (spelling t ++ closing_brace ∷ []) x'
    ∙ ap (λ z. head_text (Opened n op) ++ z) (append_assoc (spelling t) (closing_brace ∷ []) x'))) in
    let sources : in_braces asks (colon ∷ []) ++ y ≡ written ++ y' =
    rw source (braces_append asks (colon ∷ []) (inner ++ closing_brace ∷ y')
    ∙ sym (braces_append asks (colon ∷ inner ++ closing_brace ∷ []) y'
    ∙ ap (λ z. in_braces asks (colon ∷ z)) (append_assoc inner (closing_brace ∷ []) y'))) in
    subst (λ z. IsRest g unset depth z (in_braces asks (colon ∷ []) ++ y)) (sym texts)
    (subst (IsRest g unset depth (item_spelling (foreign.Operated n op t) ++ x')) (sym sources) whole)

-- a brace before the rest opens a text
rest_group : (g : Grammar) (unset : Missing) (depth : ℕ) (x y : List ℕ) → 0 < depth → g.forms ≡ of.Shell
    → IsRest g unset (suc depth) x y → IsRest g unset depth (opening_brace ∷ x) (opening_brace ∷ y)
rest_group g unset zero x y more shell rest = absurd (omega (arith, more))
rest_group g unset (suc depth) x y more shell (t, x', y', read, spelled, source, rest) =
    let inner = text (tree_of g.forms unset t) in
    let written = opening_brace ∷ inner ++ closing_brace ∷ [] in
    let whole = rest_item g unset (suc depth) (foreign.Group t) written x' y' (refl, shell, read)
    (λ next. ap (λ z. opening_brace ∷ z)
    (text-join (tree_of g.forms unset t) (Then (Plain closing_brace) next)
    ∙ sym (append_assoc inner (closing_brace ∷ []) (text next)))) rest in
    let texts : opening_brace ∷ x ≡ item_spelling (foreign.Group t) ++ x' =
    ap (λ z. opening_brace ∷ z) (spelled ∙ sym (append_assoc (spelling t) (closing_brace ∷ []) x')) in
    let sources : opening_brace ∷ y ≡ written ++ y' =
    ap (λ z. opening_brace ∷ z) (source ∙ sym (append_assoc inner (closing_brace ∷ []) y')) in
    subst (λ z. IsRest g unset (suc depth) z (opening_brace ∷ y)) (sym texts)
    (subst (IsRest g unset (suc depth) (item_spelling (foreign.Group t) ++ x')) (sym sources) whole)

-- a token before the rest, with its spelling in the template
pub rest_token : (g : Grammar) (unset : Missing) (depth position : ℕ) (t : Token) (x y : List ℕ)
    → IsToken g depth t x → refused_at position t ≡ [] → IsRest g unset (depth_after depth t) x y
    → IsRest g unset depth (token_text t ++ x) (part g.forms unset t ++ y)
rest_token g unset depth position (Byte b) x y is taken rest =
    rest_item g unset depth (foreign.Byte b) (item_text (item_of_byte (is_escaped b) b)) x y is (λ next. refl) rest
rest_token g unset depth position (Whole h) x y is taken rest =
    rest_item g unset depth (foreign.Whole h) (item_text (item_of_head g.forms unset h)) x y is (λ next. refl) rest
rest_token g unset depth position (Opens n op) x y is taken rest = search (rules, rest_opened)
rest_token g unset depth position (Required n op m) x y is taken rest =
    rest_item g unset depth (foreign.Required n op m)
    (in_braces (template_name g.forms (Some op) n) (closing_brace ∷ [])) x y is (λ next. refl) rest
rest_token g unset depth position Opening x y is taken rest = rest_group g unset depth x y is.0 is.1 rest
rest_token g unset zero position Closing x y is taken rest = absurd (omega (arith, is))
rest_token g unset (suc depth) position Closing x y is taken rest = (foreign.Empty, x, y, tt, refl, refl, rest)
rest_token g unset depth position (Refused f front) x y is taken rest = absurd cc

-- the rest of a text, before anything is read, has a template
pub whole_template : {g : Grammar} {unset : Missing} {s source : List ℕ} → IsRest g unset 0 s source
    → IsTemplate g unset s source
whole_template {g} {unset} (t, read, spelled, written) =
    search (rules, text_fits, text_means, text_names)

-- if nothing is open, the position of the outermost open variable doesn't matter
pub any_outermost : {g : Grammar} {position : ℕ} {s : List ℕ} {refused : List FormAt} (o p : ℕ)
    → Reading g o position 0 s refused → Reading g p position 0 s refused
any_outermost o p ended = ended
any_outermost o p (token t x is more) = token t x is more

-- bytes that are ASCII
abbrev AreAscii : List ℕ → Type 0
AreAscii = AllByRecursion (λ b. b < 128)

ascii_text : (x : List ℕ) → AreAscii x → IsUtf8 x
ascii_text [] each = IsUtf8-nil
ascii_text (b ∷ x) each = IsUtf8-append (b ∷ []) x (ascii_alone b each.0) (ascii_text x each.1)

after_asciis : (x z : List ℕ) → AreAscii x → IsUtf8 (x ++ z) → IsUtf8 z
after_asciis [] z each is = is
after_asciis (b ∷ x) z each is = after_asciis x z each.1 (after_ascii (x ++ z) b each.0 is)

name_asciis : (n : List ℕ) → AllByRecursion IsNameByte n → AreAscii n
name_asciis [] each = tt
name_asciis (b ∷ n) each = (name_byte_ascii b each.0, name_asciis n each.1)

-- a variable in braces is ASCII
braces_ascii : (n x : List ℕ) → IsName n → AreAscii x → AreAscii (in_braces n x)
braces_ascii n x is each = search (rules, each_append, name_asciis, name_bytes)

operator_ascii : (op : Operator) → AreAscii (operator_text op)
operator_ascii operator.ColonMinus = (omega arith, (omega arith, tt))
operator_ascii operator.ColonPlus = (omega arith, (omega arith, tt))
operator_ascii operator.ColonQuestion = (omega arith, (omega arith, tt))
operator_ascii _ = (omega arith, tt)

-- `}` and `?}` are ASCII
closing_ascii : AreAscii (closing_brace ∷ [])
closing_ascii = (omega arith, tt)

optional_ascii : AreAscii (question_mark ∷ closing_brace ∷ [])
optional_ascii = (omega arith, (omega arith, tt))

plain_ascii : (forms : Forms) (unset : Missing) (item : template.Item) (n : List ℕ) → IsName n
    → AreAscii (item_text item) → AreAscii (item_text (plain_item forms unset item n))
plain_ascii forms unset item n is each =
    let asked = template_name_is_name of.Shell None n is in
    plain_case (λ item. AreAscii (item_text item)) forms unset item n each
    (braces_ascii n (question_mark ∷ closing_brace ∷ []) is optional_ascii)
    (braces_ascii (value_of ∷ n) (closing_brace ∷ []) asked closing_ascii)
    (braces_ascii (value_of ∷ n) (question_mark ∷ closing_brace ∷ []) asked optional_ascii)

-- a byte in UTF-8 may be escaped
byte_utf8 : (u x : List ℕ) (b : ℕ) (escaped : Bool) → is_escaped b ≡ escaped → IsUtf8 (u ++ b ∷ x)
    → IsUtf8 (u ++ (item_text (item_of_byte escaped b) ++ x))
byte_utf8 u x b true special is =
    let ascii : b < 128 = grind (arith, nat_tests) in
    let (before, after) = cut_at u x b ascii is in
    IsUtf8-append u (backslash ∷ b ∷ x) before
    (IsUtf8-append (backslash ∷ []) (b ∷ x) (ascii_alone backslash (omega arith))
    (IsUtf8-append (b ∷ []) x (ascii_alone b ascii) after))
byte_utf8 u x b false plain is = is

-- ASCII bytes in UTF-8 may be replaced by others
swapped_utf8 : (u front written x : List ℕ) (b : ℕ) → b < 128 → AreAscii front → AreAscii written
    → IsUtf8 (u ++ (b ∷ front ++ x)) → IsUtf8 (u ++ (written ++ x))
swapped_utf8 u front written x b ascii each all is =
    let (before, after) = cut_at u (front ++ x) b ascii is in
    IsUtf8-append u (written ++ x) before
    (IsUtf8-append written x (ascii_text written all) (after_asciis front x each after))

head_utf8 : (g : Grammar) (unset : Missing) (h : Head) (x u : List ℕ) → IsHead g h x
    → IsUtf8 (u ++ (head_text h ++ x))
    → IsUtf8 (u ++ (item_text (item_of_head g.forms unset h) ++ x))
head_utf8 g unset head.Dollar x u is text = search (rules, swapped_utf8)
head_utf8 g unset (head.Short n) x u is text =
    let name = name_of g.forms n is.0.0 in
    let each = name_asciis n (name_bytes n name) in
    swapped_utf8 u n (item_text (plain_item g.forms unset (Short n) n)) x dollar (omega arith) each
    (plain_ascii g.forms unset (Short n) n name (omega arith, each)) text
head_utf8 g unset (head.Braced n) x u is text =
    let name = name_of g.forms n is.0 in
    let whole = braces_ascii n (closing_brace ∷ []) name closing_ascii in
    swapped_utf8 u (opening_brace ∷ n ++ closing_brace ∷ []) (item_text (plain_item g.forms unset (Braced n) n)) x
    dollar (omega arith) whole.1 (plain_ascii g.forms unset (Braced n) n name whole) text
head_utf8 g unset (head.Optional n) x u is text = search rules
head_utf8 g unset (head.Opened n op) x u is text =
    swapped_utf8 u (opening_brace ∷ n ++ operator_text op) (backslash ∷ dollar ∷ []) x dollar (omega arith)
    (braces_ascii n (operator_text op) (name_of g.forms n is.1.0) (operator_ascii op)).1
    (omega arith, (omega arith, tt)) text

-- the spelling of a token in the template keeps it UTF-8
token_utf8 : (g : Grammar) (unset : Missing) (depth position : ℕ) (t : Token) (x u : List ℕ) → IsToken g depth t x
    → refused_at position t ≡ [] → IsUtf8 (u ++ (token_text t ++ x)) → IsUtf8 (u ++ (part g.forms unset t ++ x))
token_utf8 g unset depth position (Byte b) x u is taken text = byte_utf8 u x b (is_escaped b) refl text
token_utf8 g unset depth position (Whole h) x u is taken text = head_utf8 g unset h x u is.1 text
token_utf8 g unset depth position (Opens n op) x u is taken text =
    let name = name_of g.forms n is.1.1.0 in
    swapped_utf8 u (opening_brace ∷ n ++ operator_text op)
    (in_braces (template_name g.forms (Some op) n) (colon ∷ [])) x dollar (omega arith)
    (braces_ascii n (operator_text op) name (operator_ascii op)).1
    (braces_ascii (template_name g.forms (Some op) n) (colon ∷ []) (template_name_is_name g.forms (Some op) n name)
    (omega arith, tt)) text
token_utf8 g unset depth position (Required n op m) x u is taken text =
    let name = name_of g.forms n is.1.1.0 in
    let opened = opening_brace ∷ n ++ operator_text op in
    let (before, after) = cut_at u ((opened ++ (m ++ closing_brace ∷ [])) ++ x) dollar (omega arith) text in
    let splits : (opened ++ (m ++ closing_brace ∷ [])) ++ x ≡ (opened ++ m) ++ closing_brace ∷ x =
    append_assoc opened (m ++ closing_brace ∷ []) x
    ∙ ap (λ z. opened ++ z) (append_assoc m (closing_brace ∷ []) x)
    ∙ sym (append_assoc opened m (closing_brace ∷ x)) in
    let written = in_braces (template_name g.forms (Some op) n) (closing_brace ∷ []) in
    IsUtf8-append u (written ++ x) before
    (IsUtf8-append written x
    (ascii_text written (braces_ascii (template_name g.forms (Some op) n) (closing_brace ∷ [])
    (template_name_is_name g.forms (Some op) n name) closing_ascii))
    ((cut_at (opened ++ m) x closing_brace (omega arith) (subst IsUtf8 splits after)).1))
token_utf8 g unset depth position Opening x u is taken text = text
token_utf8 g unset depth position Closing x u is taken text = text
token_utf8 g unset depth position (Refused f front) x u is taken text = absurd cc

-- plain bytes are read before a text that is read
read_plain : (g : Grammar) (depth o p : ℕ) (run x : List ℕ) (refused : List FormAt)
    → AllByRecursion (IsPlainAt (suc depth)) run → Reading g o (p + length run) (suc depth) x refused
    → Reading g o p (suc depth) (run ++ x) refused
read_plain g depth o p [] x refused each more = search rules
read_plain g depth o p (b ∷ run) x refused each more =
    token (Byte b) (run ++ x) (plain_byte g true b (run ++ x) each.0.0 each.0.2)
    (read_plain g depth o (p + 1) run x refused each.1
    (subst (λ q. Reading g o q (suc depth) x refused) (omega arith) more))

read_plain_outside : (g : Grammar) (o o' p : ℕ) (run x : List ℕ) (refused : List FormAt)
    → AllByRecursion (IsPlainAt 0) run → Reading g o (p + length run) 0 x refused
    → Reading g o' p 0 (run ++ x) refused
read_plain_outside g o o' p [] x refused each more =
    any_outermost o o' (subst (λ q. Reading g o q 0 x refused) (omega arith) more)
read_plain_outside g o o' p (b ∷ run) x refused each more =
    token (Byte b) (run ++ x) (plain_byte g false b (run ++ x) each.0.0 each.0.2)
    (read_plain_outside g o p (p + 1) run x refused each.1
    (subst (λ q. Reading g o q 0 x refused) (omega arith) more))

-- a plain byte isn't escaped
plain_stays : (depth b : ℕ) → IsPlainAt depth b → is_escaped b ≡ false
plain_stays depth b plain = let dollars = plain.0 in let escapes = plain.1 in grind (arith, nat_tests)

-- plain bytes are the same in the template
rest_plain : (g : Grammar) (unset : Missing) (depth : ℕ) (run x y : List ℕ)
    → AllByRecursion (IsPlainAt depth) run → IsRest g unset depth x y → IsRest g unset depth (run ++ x) (run ++ y)
rest_plain g unset depth [] x y each rest = rest
rest_plain g unset depth (b ∷ run) x y each rest =
    rest_item g unset depth (foreign.Byte b) (b ∷ []) (run ++ x) (run ++ y)
    (plain_byte g (is_inside depth) b (run ++ x) each.0.0 each.0.2)
    (λ next. ap (λ escaped. item_text (item_of_byte escaped b) ++ text next) (plain_stays depth b each.0))
    (rest_plain g unset depth run x y each.1 rest)

-- if two lists joined are empty, so is each
pub both_empty : {X : Type 0} (x y : List X) → x ++ y ≡ [] → (x ≡ []) × (y ≡ [])
both_empty [] y is = (refl, is)
both_empty (a ∷ x) y is = absurd cc

-- A text is read up to its rest, at this depth, with this template and these refused forms so far.
pub record Progress (g : Grammar) (unset : Missing) (s source rest : List ℕ) (refused : List FormAt)
    (depth outermost : ℕ) : Type 0 where
  pub position : ℕ
  pub at : position + length rest ≡ length s
  pub read : (more : List FormAt) → Reading g outermost position depth rest more
      → Reading g 0 0 0 s (refused ++ more)
  pub written : refused ≡ [] → (y : List ℕ) → IsRest g unset depth rest y → IsRest g unset 0 s (source ++ y)
  pub is_text : refused ≡ [] → IsUtf8 s → IsUtf8 (source ++ rest)
  pub few : depth + length rest ≤ length s

-- plain bytes are read and appended
passes_plain : (g : Grammar) (unset : Missing) (s source rest : List ℕ) (refused : List FormAt)
    (depth outermost : ℕ) (run x new : List ℕ) (first : ℕ) → Progress g unset s source rest refused depth outermost
    → AllByRecursion (IsPlainAt depth) run → rest ≡ run ++ x → new ≡ source ++ run
    → first ≡ outermost_at depth outermost (length s - length rest)
    → Progress g unset s new x refused depth first
passes_plain g unset s source rest refused depth outermost run x new first so_far each splits added is =
    let lengths : length rest ≡ length run + length x = ap length splits ∙ length-append run x in
    record {
      position = so_far.position + length run;
      at = omega (arith, so_far.at, lengths);
      read = λ more later. so_far.read more
          (subst (λ z. Reading g outermost so_far.position depth z more) (sym splits)
          (passed depth refl each is later));
      written = λ none y later. subst (IsRest g unset 0 s)
          (sym (ap (λ z. z ++ y) added ∙ append_assoc source run y))
          (so_far.written none (run ++ y) (subst (λ z. IsRest g unset depth z (run ++ y)) (sym splits)
          (rest_plain g unset depth run x y each later)));
      is_text = λ none text. subst IsUtf8
          (ap (λ z. source ++ z) splits ∙ sym (append_assoc source run x) ∙ ap (λ z. z ++ x) (sym added))
          (so_far.is_text none text);
      few = omega (arith, so_far.few, lengths);
    }
  where
    passed : (d : ℕ) → depth ≡ d → AllByRecursion (IsPlainAt d) run
        → first ≡ outermost_at d outermost (length s - length rest) → {more : List FormAt}
        → Reading g first (so_far.position + length run) d x more
        → Reading g outermost so_far.position d (run ++ x) more
    passed zero same plain is {more} later =
        read_plain_outside g first outermost so_far.position run x more plain later
    passed (suc d) same plain is {more} later =
        read_plain g d outermost so_far.position run x more plain
        (subst (λ o. Reading g o (so_far.position + length run) (suc d) x more) is later)

-- a token has at least one byte
pub token_some : (g : Grammar) (depth : ℕ) (t : Token) (x : List ℕ) → IsToken g depth t x
    → 0 < length (token_text t)
token_some g depth (Refused form.Dollar front) x is = rw is.1 (omega arith)
token_some g depth (Refused form.Brace front) x is = rw is.1 (omega arith)
token_some g depth (Refused form.NoName front) x is = rw is.1 (omega arith)
token_some g depth (Refused form.Unclosed (b ∷ front)) x is = omega arith
token_some g depth (Refused form.Unclosed []) x (inl (n, op, z, takes, head, spelled, never), none) = absurd cc
token_some g depth (Refused form.Unclosed []) x (inr (whole, (n, z, named, shell, spelled, ends, other, has)), is) =
    absurd cc
token_some g depth (Refused f front) x is = rw is.1.3 (omega arith)
token_some g depth (Whole head.Dollar) x is = omega arith
token_some g depth _ x is = omega arith

-- a token opens at most one text
pub opens_one : (depth : ℕ) (t : Token) → depth_after depth t ≤ depth + 1
opens_one depth (Opens n op) = omega arith
opens_one depth Opening = omega arith
opens_one zero Closing = omega arith
opens_one (suc depth) Closing = omega arith
opens_one depth _ = omega arith

-- a token is read and its spelling appended
passes_token : (g : Grammar) (unset : Missing) (s source rest : List ℕ) (refused : List FormAt)
    (depth outermost : ℕ) (t : Token) (x new : List ℕ) (more : List FormAt) (after first : ℕ)
    → Progress g unset s source rest refused depth outermost → IsToken g depth t x → rest ≡ token_text t ++ x
    → new ≡ source ++ part g.forms unset t → more ≡ refused ++ refused_at (length s - length rest) t
    → after ≡ depth_after depth t → first ≡ outermost_at depth outermost (length s - length rest)
    → Progress g unset s new x more after first
passes_token g unset s source rest refused depth outermost t x new more after first so_far is splits added told
    deeper opened =
    let lengths : length rest ≡ length (token_text t) + length x =
    ap length splits ∙ length-append (token_text t) x in
    let here : length s - length rest ≡ so_far.position = omega (arith, so_far.at) in
    let outer : first ≡ outermost_at depth outermost so_far.position =
    opened ∙ ap (outermost_at depth outermost) here in
    let parts : more ≡ [] → (refused ≡ []) × (refused_at (length s - length rest) t ≡ []) = λ none.
    both_empty refused (refused_at (length s - length rest) t) (sym told ∙ none) in
    record {
      position = so_far.position + length (token_text t);
      at = omega (arith, so_far.at, lengths);
      read = λ later reads. subst (Reading g 0 0 0 s)
          (sym (ap (λ z. z ++ later) (told ∙ ap (λ p. refused ++ refused_at p t) here)
          ∙ append_assoc refused (refused_at so_far.position t) later))
          (so_far.read (refused_at so_far.position t ++ later)
          (subst (λ z. Reading g outermost so_far.position depth z (refused_at so_far.position t ++ later))
          (sym splits) (token t x is
          (subst (λ o. Reading g o (so_far.position + length (token_text t)) (depth_after depth t) x later)
          outer (subst (λ d. Reading g first (so_far.position + length (token_text t)) d x later) deeper reads)))));
      written = λ none y later. subst (IsRest g unset 0 s)
          (sym (ap (λ z. z ++ y) added ∙ append_assoc source (part g.forms unset t) y))
          (so_far.written (parts none).0 (part g.forms unset t ++ y)
          (subst (λ z. IsRest g unset depth z (part g.forms unset t ++ y)) (sym splits)
          (rest_token g unset depth (length s - length rest) t x y is (parts none).1
          (subst (λ d. IsRest g unset d x y) deeper later))));
      is_text = λ none text. subst IsUtf8
          (sym (ap (λ z. z ++ x) added ∙ append_assoc source (part g.forms unset t) x))
          (token_utf8 g unset depth (length s - length rest) t x source is (parts none).1
          (subst IsUtf8 (ap (λ z. source ++ z) splits) (so_far.is_text (parts none).0 text)));
      few = omega (arith, so_far.few, lengths, token_some g depth t x is, opens_one depth t, deeper);
    }

-- of two tokens at one depth, the first one doesn't matter for the outermost open variable after the second
outermost_again : (depth o p q : ℕ) → outermost_at depth (outermost_at depth o p) q ≡ outermost_at depth o q
outermost_again zero o p q = refl
outermost_again (suc depth) o p q = refl

open_still : (depth o p : ℕ) → left_open depth (outermost_at depth o p) ≡ left_open depth o
open_still zero o p = refl
open_still (suc depth) o p = refl

-- A text is read up to its rest, and the template lacks a run of bytes before the rest: the pending bytes.
pub record Waits (g : Grammar) (unset : Missing) (s source pending rest : List ℕ) (refused : List FormAt)
    (depth outermost : ℕ) : Type 0 where
  pub run : List ℕ
  pub waits : pending ≡ run ++ rest
  pub so_far : Progress g unset s (source ++ run) rest refused depth outermost

-- the next token, after plain bytes
pub record Passes (g : Grammar) (s rest special : List ℕ) (refused more : List FormAt)
    (depth after outermost first : ℕ) (t : Token) (x : List ℕ) : Type 0 where
  pub plain : IsAfterPlain depth rest special
  pub is : IsToken g depth t x
  pub splits : special ≡ token_text t ++ x
  pub told : more ≡ refused ++ refused_at (length s - length special) t
  pub deeper : after ≡ depth_after depth t
  pub opened : first ≡ outermost_at depth outermost (length s - length special)

-- plain bytes and a token are read
passes : (g : Grammar) (unset : Missing) (s source rest special : List ℕ) (refused more : List FormAt)
    (depth after outermost first : ℕ) (t : Token) (x : List ℕ)
    → Progress g unset s source rest refused depth outermost
    → (passed : Passes g s rest special refused more depth after outermost first t x)
    → Progress g unset s ((source ++ passed.plain.0) ++ part g.forms unset t) x more after first
passes g unset s source rest special refused more depth after outermost first t x so_far passed =
    let run = passed.plain.0 in
    let between = outermost_at depth outermost (length s - length rest) in
    passes_token g unset s (source ++ run) special refused depth between t x
    ((source ++ run) ++ part g.forms unset t) more after first
    (passes_plain g unset s source rest refused depth outermost run special (source ++ run) between so_far
    passed.plain.1 passed.plain.2 refl refl)
    passed.is passed.splits refl passed.told passed.deeper
    (passed.opened ∙ sym (outermost_again depth outermost (length s - length rest) (length s - length special)))

-- a token with the same spelling in the template stays pending
pub waits_more : (g : Grammar) (unset : Missing) (s source pending rest special : List ℕ)
    (refused more : List FormAt) (depth after outermost first : ℕ) (t : Token) (x : List ℕ)
    → Waits g unset s source pending rest refused depth outermost
    → Passes g s rest special refused more depth after outermost first t x
    → part g.forms unset t ≡ token_text t → Waits g unset s source pending x more after first
waits_more g unset s source pending rest special refused more depth after outermost first t x waiting passed same =
    let plain = passed.plain.0 in
    let run = (waiting.run ++ plain) ++ token_text t in
    let whole : source ++ run ≡ ((source ++ waiting.run) ++ plain) ++ part g.forms unset t =
    sym (rw same (append_assoc (source ++ waiting.run) plain (token_text t)
    ∙ append_assoc source waiting.run (plain ++ token_text t)
    ∙ ap (λ z. source ++ z) (sym (append_assoc waiting.run plain (token_text t))))) in
    record {
      run = run;
      waits = waiting.waits ∙ ap (λ z. waiting.run ++ z) (passed.plain.2 ∙ ap (λ z. plain ++ z) passed.splits)
          ∙ sym (append_assoc waiting.run plain (token_text t ++ x))
          ∙ sym (append_assoc (waiting.run ++ plain) (token_text t) x);
      so_far = subst (λ z. Progress g unset s z x more after first) (sym whole)
          (passes g unset s (source ++ waiting.run) rest special refused more depth after outermost first t x
          waiting.so_far passed);
    }

-- a token with another spelling is appended, after the pending bytes
pub waits_anew : (g : Grammar) (unset : Missing) (s source pending rest special : List ℕ)
    (refused more : List FormAt) (depth after outermost first : ℕ) (t : Token) (x kept written new : List ℕ)
    → Waits g unset s source pending rest refused depth outermost
    → Passes g s rest special refused more depth after outermost first t x
    → kept ≡ source ++ take (length pending - length special) pending → new ≡ kept ++ written
    → part g.forms unset t ≡ written → Waits g unset s new x x more after first
waits_anew g unset s source pending rest special refused more depth after outermost first t x kept written new
    waiting passed begins added stands =
    let plain = passed.plain.0 in
    let run = waiting.run ++ plain in
    let whole : pending ≡ run ++ special =
    waiting.waits ∙ ap (λ z. waiting.run ++ z) passed.plain.2 ∙ sym (append_assoc waiting.run plain special) in
    let taken : take (length pending - length special) pending ≡ run =
    ap (λ z. take (length z - length special) z) whole
    ∙ ap (λ n. take n (run ++ special)) (omega (arith, length-append run special)) ∙ take-append_seam run special in
    let same : new ++ [] ≡ ((source ++ waiting.run) ++ plain) ++ part g.forms unset t =
    append-nil new ∙ added ∙ ap (λ z. kept ++ z) (sym stands) ∙ ap (λ z. z ++ part g.forms unset t)
    (begins ∙ ap (λ z. source ++ z) taken ∙ sym (append_assoc source waiting.run plain)) in
    record {
      run = [];
      waits = refl;
      so_far = subst (λ z. Progress g unset s z x more after first) (sym same)
          (passes g unset s (source ++ waiting.run) rest special refused more depth after outermost first t x
          waiting.so_far passed);
    }

-- the whole text is read
ends : (g : Grammar) (unset : Missing) (s source rest : List ℕ) (refused more : List FormAt)
    (depth outermost : ℕ) → Progress g unset s source rest refused depth outermost → length rest ≡ 0
    → more ≡ refused ++ left_open depth outermost → IsConverted g unset s source more
ends g unset s source (b ∷ rest) refused more depth outermost so_far none is = absurd (omega (arith, none))
ends g unset s source [] refused more zero outermost so_far none is =
    let same : more ≡ refused = is ∙ append-nil refused in
    record {
      read = subst (Reading g 0 0 0 s) (sym is) (so_far.read [] ended);
      template = λ nothing. whole_template (subst (IsRest g unset 0 s) (append-nil source)
          (so_far.written (sym same ∙ nothing) [] (foreign.Empty, tt, refl, refl)));
      is_text = λ nothing text. subst IsUtf8 (append-nil source) (so_far.is_text (sym same ∙ nothing) text);
    }
ends g unset s source [] refused more (suc depth) outermost so_far none is =
    search (rules, both_empty, unclosed)

pub waits_end : (g : Grammar) (unset : Missing) (s source pending rest : List ℕ) (refused more : List FormAt)
    (depth outermost : ℕ) (new : List ℕ) → Waits g unset s source pending rest refused depth outermost
    → IsAfterPlain depth rest [] → new ≡ source ++ pending → more ≡ refused ++ left_open depth outermost
    → IsConverted g unset s new more
waits_end g unset s source pending rest refused more depth outermost new waiting plain written is =
    let between = outermost_at depth outermost (length s - length rest) in
    ends g unset s new [] refused more depth between
    (passes_plain g unset s (source ++ waiting.run) rest refused depth outermost plain.0 [] new between
    waiting.so_far plain.1 plain.2
    (written ∙ ap (λ z. source ++ z)
    (waiting.waits ∙ ap (λ z. waiting.run ++ z) (plain.2 ∙ append-nil plain.0))
    ∙ sym (append_assoc source waiting.run plain.0))
    refl) refl (is ∙ ap (λ z. refused ++ z) (sym (open_still depth outermost (length s - length rest))))
