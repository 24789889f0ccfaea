-- The text of the error comes after that of the path.
use Rattle.std.proofs.Common.{◌≡◌, ◌==◌, false, ◌++◌, codes, length, ℕ, List, [], ◌∷◌, string_bytes, refl, rules}
use Rattle.subst_c.specs.Documents.{before_fault}
use Rattle.subst_c.proofs.document.with_path.Goals as goal

before_a_fault : (path : List ℕ) → (length path == 0) ≡ false → before_fault path ≡ path ++ codes ": "
before_a_fault [] h = absurd cc
before_a_fault (b ∷ path) h = refl

pub returns : goal.returns
returns c =
    let before = before_a_fault c.args.path.now (search rules) in
    let written : string_bytes c.push_str-2.new.self
    ≡ before_fault c.args.path.now ++ string_bytes c.in_ok-message.message =
    rw (
      c.in_ok-push_str-2.ensures.bytes,
      c.in_ok-push_str.ensures.bytes,
      c.in_ok-text.ensures.ok,
      c.as_str.ensures.value,
      before,
    ) refl in
    (string_bytes c.in_ok-message.message, written, c.in_ok-message.ensures)
