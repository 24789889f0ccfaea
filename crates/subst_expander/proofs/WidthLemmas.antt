-- The columns of a text that is cut.
use Rattle.std.proofs.Common.{◌≡◌, ℕ, ◌+◌, true, false, List, [], ◌∷◌, ◌++◌, length, zero, suc, append-nil, zero-add, refl, sym, ap, ◌∙◌, arith}
use Rattle.std.proofs.Math.ListN.{replicate}
use Rattle.std.proofs.lemmas.Bool.Decides.{nat_tests}
use Rattle.std.specs.Int.{is_in_range}
use Rattle.std.specs.List.{list_all}
use Rattle.unicode_width.specs.declared.state.State.{State}
use Rattle.unicode_width.specs.Width.{is_emoji_variation_base, plain, past_emoji, step, Reading, read_before, str_width}
use Rattle.unicode_width.proofs.Computing.{unicode_width}
use Rattle.unicode_width.proofs.Rules.{is_simple, str_width-append_simple}
use Rattle.unicode_width.proofs.WidthLemmas.{read_before-printable}
use Rattle.subst_expander.specs.Positions.{is_cut}

no_emoji : (is_emoji_variation_base 32 ≡ false) × (is_emoji_variation_base 36 ≡ false)
    × (is_emoji_variation_base 92 ≡ false)
unfolding unicode_width
no_emoji = (refl, refl, refl)

begins_no_emoji : (c : ℕ) → is_cut c ≡ true → is_emoji_variation_base c ≡ false
begins_no_emoji c cut = grind (arith, nat_tests, no_emoji.0, no_emoji.1, no_emoji.2)

-- whatever follows it, such a character adds one column
step-cut : (c total : ℕ) (s : State) → is_cut c ≡ true → step false c (total, s) ≡ (total + 1, plain)
unfolding step past_emoji
step-cut c total s cut = grind (arith, nat_tests, begins_no_emoji c cut)

read_before-append : (xs ys : List ℕ) (r : Reading)
    → read_before false (xs ++ ys) r ≡ read_before false xs (read_before false ys r)
read_before-append [] ys r = refl
read_before-append (x ∷ xs) ys r = ap (step false x) (read_before-append xs ys r)

-- characters of one column
abbrev ones : ℕ → List ℕ
ones n = replicate n 65

ones_are : (n : ℕ) → (list_all (is_in_range 0x20 0x7E) (ones n) ≡ true) × (list_all is_simple (ones n) ≡ true)
    × (length (ones n) ≡ n)
ones_are zero = (refl, refl, refl)
ones_are (suc n) = let rest = ones_are n in (rest.0, rest.1, ap suc rest.2)

-- a text that begins with such a character is read as characters of one column
pub str_width-cut : (xs cs : List ℕ) (c : ℕ) → is_cut c ≡ true
    → str_width false (xs ++ c ∷ cs) ≡ str_width false xs + str_width false (c ∷ cs)
unfolding str_width
str_width-cut xs cs c cut =
    let r = read_before false cs (0, plain) in
    let n = r.0 + 1 in
    let here : read_before false (c ∷ cs) (0, plain) ≡ (n, plain) = step-cut c r.0 r.1 cut in
    let printed : (0 + length (ones n), plain) ≡ read_before false (ones n ++ []) (0, plain) =
    read_before-printable false (ones n) [] 0 (ones_are n).0 refl in
    let there : read_before false (ones n) (0, plain) ≡ (n, plain) =
    ap (λ l. read_before false l (0, plain)) (sym (append-nil (ones n))) ∙ sym printed
    ∙ ap (λ m. (m, plain)) (zero-add (length (ones n)) ∙ (ones_are n).2) in
    let same : read_before false (xs ++ c ∷ cs) (0, plain) ≡ read_before false (xs ++ ones n) (0, plain) =
    read_before-append xs (c ∷ cs) (0, plain) ∙ ap (read_before false xs) (here ∙ sym there)
    ∙ sym (read_before-append xs (ones n) (0, plain)) in
    ap (λ r. r.0) same ∙ str_width-append_simple false xs (ones n) (ones_are n).1
    ∙ ap (λ r. (read_before false xs (0, plain)).0 + r.0) (there ∙ sym here)
