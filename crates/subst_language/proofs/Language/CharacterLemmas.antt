-- The character at the start of a text, or the first byte if there is none.
use Rattle.std.proofs.lemmas.Grind.{common_steps}
use Rattle.std.proofs.Common.{rules, ◌≡◌, ◌⊎◌, ℕ, zero, suc, ◌≤◌, ◌<◌, List, [], ◌∷◌, take, get_or, chars, encode_utf8, true, refl, sym, ap, ◌∙◌, inl, inr, append-nil, arith, take_at}
use Rattle.std.proofs.Math.Utf8.{scalar}
use Rattle.std.proofs.lemmas.Str.{encode_same, chars-encodes, length-encode, len_utf8_bounds}
use Rattle.std.specs.Char.{len_utf8}
use Rattle.std.proofs.lemmas.Bool.{and_from}
use Rattle.subst_language.specs.Language.Character.{BeginsWithChar, IsFrontCharacter}
use Rattle.subst_error.specs.declared.CharOrByte.{CharOrByte}
use Rattle.subst_error.specs.declared.CharOrByte.TheVariants.{Char, Byte}
use Rattle.subst_language.proofs.Language.ListLemmas.{begins_or_not}

-- two characters at the start of one text are equal
pub character_unique : (s : List ℕ) (c d : CharOrByte) → IsFrontCharacter s c → IsFrontCharacter s d → c ≡ d
character_unique s (Char c) (Char d) h k = ap Char (encode_same c d h.1.0 k.1.0 (cc (h.1.1, k.1.1))).0
character_unique s (Char c) (Byte b) h k = absurd (k.0 c h)
character_unique s (Byte b) (Char d) h k = absurd (h.0 d k)
character_unique s (Byte b) (Byte d) h k = cc (h.1.1, k.1.1)

-- a text begins with the character c, or doesn't
begins_with_or_not : (s : List ℕ) (c : ℕ) → Dec (BeginsWithChar s c)
begins_with_or_not s c = grind (arith, common_steps, scalar c, begins_or_not (encode_utf8 c) s, encode_utf8 c)

-- the character that the first n bytes spell, if they spell one
spelled_by : ℕ → List ℕ → ℕ
spelled_by n s = get_or (chars (take n s)) 0 0

-- one character spells itself
chars_of_one : (c : ℕ) → scalar c ≡ true → chars (encode_utf8 c) ≡ c ∷ []
chars_of_one c h =
    ap chars (sym (append-nil (encode_utf8 c))) ∙ chars-encodes (c ∷ []) (and_from (scalar c) true h refl)

-- a character at the start of a text is the one that its first bytes spell
spelled_by_front : (s : List ℕ) (c : ℕ) → BeginsWithChar s c → spelled_by (len_utf8 c) s ≡ c
unfolding spelled_by
spelled_by_front s c h = search (rules, chars, len_utf8, take_at, encode_utf8, length-encode, chars_of_one)

-- of the characters that the first bytes may spell, none of more than k bytes is at the start of the text
abbrev NoneAbove : List ℕ → ℕ → Type 0
NoneAbove s k = (n : ℕ) → k < n → n ≤ 4 → ¬ (BeginsWithChar s (spelled_by n s))

-- some character is at the start of the text, or none is
abbrev CharacterOrNone : List ℕ → Type 0
CharacterOrNone s = ((c : ℕ) × BeginsWithChar s c) ⊎ ((c : ℕ) → ¬ (BeginsWithChar s c))

-- no character but the four that the first bytes may spell is at the start of a text
no_other_character : (s : List ℕ) → NoneAbove s 0 → (c : ℕ) → ¬ (BeginsWithChar s c)
no_other_character s none c h =
    let b = len_utf8_bounds c in
    none (len_utf8 c) b.0 b.1 (rw (spelled_by_front s c h) h)

-- one more of the four isn't there
none_from : (s : List ℕ) (k : ℕ) → ¬ (BeginsWithChar s (spelled_by (suc k) s)) → NoneAbove s (suc k)
    → NoneAbove s k
none_from s k one none n h l c = search (rules, spelled_by)

-- the four are tried in turn, from the longest
try_from : (s : List ℕ) (k : ℕ) → NoneAbove s k → CharacterOrNone s
try_from s zero none = inr (no_other_character s none)
try_from s (suc k) none =
    of (begins_with_or_not s (spelled_by (suc k) s)) (λ one. try_from s k (none_from s k one none))
  where
    of : Dec (BeginsWithChar s (spelled_by (suc k) s))
        → (¬ (BeginsWithChar s (spelled_by (suc k) s)) → CharacterOrNone s)
        → CharacterOrNone s
    of (yes h) rest = inl (spelled_by (suc k) s, h)
    of (no one) rest = rest one

-- each text but the empty one has a character, or a byte that begins none, at its start
pub front_character : (b : ℕ) (x : List ℕ) → (c : CharOrByte) × IsFrontCharacter (b ∷ x) c
front_character b x = of (try_from (b ∷ x) 4 (λ n h k. absurd (omega arith)))
  where
    of : CharacterOrNone (b ∷ x) → (c : CharOrByte) × IsFrontCharacter (b ∷ x) c
    of (inl h) = (Char h.0, h.1)
    of (inr none) = (Byte b, (none, (x, refl)))
