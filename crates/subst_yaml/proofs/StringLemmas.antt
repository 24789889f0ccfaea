-- Bytes that are text, and bytes that aren't.
use Rattle.std.proofs.Common.{◌≡◌, ℕ, List, Bool, true, false, Some, None, IsUtf8, refl, subst}
use Rattle.std.proofs.lemmas.Str.{IsUtf8-from_is_utf8, is_utf8-from_IsUtf8}
use Rattle.std.specs.Str.{is_utf8}
use Rattle.subst_yaml.specs.Filled.{text_of}

pub text_is : (bytes text : List ℕ) → text ≡ bytes → IsUtf8 text → Some text ≡ text_of bytes
text_is bytes text is utf8 =
    let test : is_utf8 bytes ≡ true = is_utf8-from_IsUtf8 bytes (subst (λ (x : List ℕ). IsUtf8 x) is utf8) in
    rw (test, is) refl

pub no_text : (bytes : List ℕ) → ¬ (IsUtf8 bytes) → None ≡ text_of bytes
no_text bytes no_utf8 = by_test (is_utf8 bytes) refl
  where
    by_test : (test : Bool) → is_utf8 bytes ≡ test → None ≡ text_of bytes
    by_test true is = absurd (no_utf8 (IsUtf8-from_is_utf8 bytes is))
    by_test false is = rw is refl
