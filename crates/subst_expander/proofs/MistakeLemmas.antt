-- The search for halves of surrogate pairs, byte by byte.
use Rattle.std.proofs.Common.{◌≡◌, ℕ, zero, suc, ◌==◌, ◌+◌, ◌-◌, ◌<◌, ◌≤◌, ◌∙◌, false, List, ◌∷◌, Option, Some, None, ap, arith, drop, get_or, length, refl, subst, sym, take}
use Rattle.std.proofs.lemmas.List.{drop_more, length-drop, take_all}
use Rattle.subst_expander.specs.Documents.{IsUnfilled}
use Rattle.subst_expander.specs.Mistakes.{after_first, is_lone_at, lone_at, mistake_of, or_message, unread_at}
use Rattle.subst_expander.specs.declared.document.mistake.Mistake.{Mistake}
use Rattle.subst_json.specs.declared.stop.ReaderStop.{ReaderStop}

step_skipped : (at to_skip b : ℕ) (bs : List ℕ) → 0 < to_skip
    → lone_at at to_skip (b ∷ bs) ≡ lone_at (at + 1) (to_skip - 1) bs
step_skipped at zero b bs lt = let no : ⊥ = omega (arith, lt) in absurd no
step_skipped at (suc to_skip) b bs lt = let e : suc to_skip - 1 ≡ to_skip = omega arith in rw e refl

-- a byte that is skipped
pub lone_skipped : (at to_skip : ℕ) (bs : List ℕ) → at < length bs → 0 < to_skip
    → lone_at at to_skip (drop at bs) ≡ lone_at (at + 1) (to_skip - 1) (drop (at + 1) bs)
lone_skipped at to_skip bs lt some =
    ap (lone_at at to_skip) (drop_more bs at 0 lt)
    ∙ step_skipped at to_skip (get_or bs at 0) (drop (at + 1) bs) some

step_next : (at b : ℕ) (bs : List ℕ) → (get_or (b ∷ bs) 0 0 == 34) ≡ false → is_lone_at (b ∷ bs) ≡ false
    → lone_at at 0 (b ∷ bs) ≡ lone_at (at + 1) (after_first (b ∷ bs)) bs
step_next at b bs quote lone = rw (quote, lone) refl

-- a byte that neither ends the string nor begins a lone half
pub lone_next : (at : ℕ) (bs : List ℕ) → at < length bs → (get_or (drop at bs) 0 0 == 34) ≡ false
    → is_lone_at (drop at bs) ≡ false
    → lone_at at 0 (drop at bs) ≡ lone_at (at + 1) (after_first (drop at bs)) (drop (at + 1) bs)
lone_next at bs lt =
    let rest = drop (at + 1) bs in
    subst (λ cs. (get_or cs 0 0 == 34) ≡ false → is_lone_at cs ≡ false
    → lone_at at 0 cs ≡ lone_at (at + 1) (after_first cs) rest)
    (sym (drop_more bs at 0 lt)) (step_next at (get_or bs at 0) rest)

-- a byte that is no quote
pub no_quote : (byte b : ℕ) → byte ≡ b → (byte ≡ 34 → ⊥) → (b == 34) ≡ false
no_quote byte b is other = grind (arith, is, other)

-- the rest, cut to its own length, is the rest
pub whole_rest : (at : ℕ) (bs : List ℕ) → take (length bs - at) (drop at bs) ≡ drop at bs
whole_rest at bs =
    let all : length (drop at bs) ≤ length bs - at = rw length-drop (omega arith) in
    take_all (length bs - at) (drop at bs) all

-- a text that isn't read is no document, with a mistake or with its reader's message
message_unread : (IsNone IsRefused : Type 0) → IsNone → (stop : ReaderStop) → (found : Option (Mistake × ℕ))
    → IsUnfilled IsNone IsRefused (or_message stop found)
message_unread IsNone IsRefused is stop None = is
message_unread IsNone IsRefused is stop (Some (mistake, offset)) = is

pub is_unread : (IsNone IsRefused : Type 0) → IsNone → (text : List ℕ) → (stop : ReaderStop)
    → IsUnfilled IsNone IsRefused (unread_at text stop)
is_unread IsNone IsRefused is text stop = message_unread IsNone IsRefused is stop (mistake_of text stop)
