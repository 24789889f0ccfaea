-- Names: their bytes, and the end of a name in a text.
use Rattle.std.proofs.Common.{◌≡◌, ◌≢◌, ℕ, true, List, [], ◌∷◌, ◌++◌, refl, ap, subst, ◌<◌, arith}
use Rattle.std.proofs.Math.Bool.{Bool-discrete}
use Rattle.std.specs.List.{AllByRecursion}
use Rattle.std.specs.Str.{IsAscii, IsUtf8}
use Rattle.std.proofs.lemmas.Bool.Decides.{nat_tests}
use Rattle.std.proofs.lemmas.Str.{IsUtf8-from_ascii}
use Rattle.std.proofs.lemmas.Str.Ascii.{IsAscii-nil, IsAscii-cons}
use Rattle.subst_language.specs.Language.Bytes.{dollar, colon, question_mark, backslash, opening_brace, closing_brace}
use Rattle.subst_language.specs.Language.Name.{BeginsWithNo}
use Rattle.subst_language.specs.Language.Name.{is_name_byte, IsNameByte, IsName}
use Rattle.subst_language.specs.Language.Balanced.{IsBalanced}
use Rattle.subst_language.specs.Language.Balanced.IsBalanced.{empty, byte}

-- a byte is a name byte, or isn't
pub name_byte_or_not : (b : ℕ) → Dec (IsNameByte b)
name_byte_or_not b = Bool-discrete (is_name_byte b) true

-- a name byte differs from a byte that is none
pub name_byte_differs : (b c : ℕ) → IsNameByte b → ¬ (IsNameByte c) → b ≢ c
name_byte_differs b c h n e = n (subst IsNameByte e h)

-- a backslash is no name byte
pub backslash_no_name : ¬ (IsNameByte backslash)
backslash_no_name h = cc

-- a dollar is no name byte
pub dollar_no_name : ¬ (IsNameByte dollar)
dollar_no_name h = cc

-- an opening brace is no name byte
pub opening_no_name : ¬ (IsNameByte opening_brace)
opening_no_name h = cc

-- a closing brace is no name byte
pub closing_no_name : ¬ (IsNameByte closing_brace)
closing_no_name h = cc

-- a colon is no name byte
pub colon_no_name : ¬ (IsNameByte colon)
colon_no_name h = cc

-- a question mark is no name byte
pub question_mark_no_name : ¬ (IsNameByte question_mark)
question_mark_no_name h = cc

-- a name has name bytes alone
pub name_bytes : (n : List ℕ) → IsName n → AllByRecursion IsNameByte n
name_bytes [] h = absurd h
name_bytes (b ∷ n) h = h

-- the two parts of a text: name bytes, and a rest that begins with no name byte
pub record IsSplit (n x s : List ℕ) : Type 0 where
  pub name_part : AllByRecursion IsNameByte n
  pub rest_part : BeginsWithNo IsNameByte x
  pub parts : s ≡ n ++ x

-- the parts are unique
pub split_unique : (n m x y : List ℕ) → AllByRecursion IsNameByte n → AllByRecursion IsNameByte m
    → BeginsWithNo IsNameByte x → BeginsWithNo IsNameByte y → n ++ x ≡ m ++ y → (n ≡ m) × (x ≡ y)
split_unique [] [] x y h k f g e = (refl, e)
split_unique [] (c ∷ m) [] y h k f g e = cc
split_unique [] (c ∷ m) (b ∷ x) y h k f g e = absurd (name_byte_differs c b k.0 f cc)
split_unique (b ∷ n) [] x [] h k f g e = cc
split_unique (b ∷ n) [] x (c ∷ y) h k f g e = absurd (name_byte_differs b c h.0 g cc)
split_unique (b ∷ n) (c ∷ m) x y h k f g e = let s = split_unique n m x y h.1 k.1 f g cc in (cc (s.0), s.1)

-- each text has these parts
pub split : (s : List ℕ) → (n x : List ℕ) × IsSplit n x s
split [] = ([], [], record { name_part = tt; rest_part = tt; parts = refl })
split (b ∷ s) = of (name_byte_or_not b) (split s)
  where
    of : Dec (IsNameByte b) → ((n x : List ℕ) × IsSplit n x s) → (n x : List ℕ) × IsSplit n x (b ∷ s)
    of (yes h) (n, x, p) = (
      b ∷ n,
      x,
      record {
        name_part = (h, p.name_part);
        rest_part = p.rest_part;
        parts = ap (λ t. b ∷ t)
            p.parts;
      },
    )
    of (no f) _ = ([], b ∷ s, record { name_part = tt; rest_part = f; parts = refl })

-- a name byte is no backslash and no brace
pub name_byte_plain : (b : ℕ) → IsNameByte b → (b ≢ backslash) × (b ≢ opening_brace) × (b ≢ closing_brace)
name_byte_plain b h = (
  name_byte_differs b backslash h backslash_no_name,
  name_byte_differs b opening_brace h opening_no_name,
  name_byte_differs b closing_brace h closing_no_name,
)

-- name bytes are balanced, as they have no brace and no backslash
balanced_bytes : (n : List ℕ) → AllByRecursion IsNameByte n → IsBalanced n
balanced_bytes [] h = empty
balanced_bytes (b ∷ n) h = let (s, o, c) = name_byte_plain b h.0 in byte s o c (balanced_bytes n h.1)

-- a name is balanced
pub name_balanced : (n : List ℕ) → IsName n → IsBalanced n
name_balanced n named = balanced_bytes n (name_bytes n named)

-- a name byte is ASCII
pub name_byte_ascii : (b : ℕ) → IsNameByte b → b < 128
name_byte_ascii b is = grind (arith, nat_tests)

-- name bytes are ASCII
name_bytes_ascii : (bytes : List ℕ) → AllByRecursion IsNameByte bytes → IsAscii bytes
name_bytes_ascii [] each = IsAscii-nil
name_bytes_ascii (b ∷ bytes) each =
    IsAscii-cons b bytes (name_byte_ascii b each.0) (name_bytes_ascii bytes each.1)

-- a name is UTF-8
pub name_is_utf8 : (name : List ℕ) → IsName name → IsUtf8 name
name_is_utf8 [] is = elim is [ ]
name_is_utf8 (b ∷ bytes) is = IsUtf8-from_ascii (b ∷ bytes) (name_bytes_ascii (b ∷ bytes) is)
