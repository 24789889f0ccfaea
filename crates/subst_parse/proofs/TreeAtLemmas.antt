-- The items of a source, each as a tree of one item.
use Rattle.std.proofs.Common.{◌≡◌, ℕ, ◌+◌, List, [], ◌∷◌, ◌++◌, length, drop, refl, sym, ap, ◌∙◌, append_assoc, append-nil, length-append, arith}
use Rattle.std.proofs.Math.Seq.{drop-append_seam}
use Rattle.std.proofs.lemmas.List.{drop-drop}
use Rattle.subst_language.specs.Language.Bytes.{dollar, opening_brace, colon, question_mark, closing_brace}
use Rattle.subst_language.specs.Language.Tree.{Item, Escaped, Short, Braced, Optional, Default, Tree, Empty, Then, item_text, text}
use Rattle.subst_language.specs.Language.WellFormed.{IsItem, IsWellFormed}
use Rattle.subst_language.specs.Language.Followed.{IsFollowed}
use Rattle.subst_language.specs.Language.Balanced.{IsBalanced}
use Rattle.subst_language.specs.Parts.Span.{span_bytes}
use Rattle.subst_parse.specs.Placeholder.{IsEscape, IsShort, IsInBraces, IsOptional}
use Rattle.subst_language.specs.declared.part.Span.{Span}
use Rattle.subst_parse.specs.Parsing.{IsTreeAt}

-- the byte after a name in braces
pub after_name : (s : List ℕ) (at : ℕ) (name : Span) (b : ℕ) → IsInBraces s at name b
    → drop name.end s ≡ b ∷ drop (name.end + 1) s
after_name s at name b is =
    let head = dollar ∷ opening_brace ∷ span_bytes name s in
    let ends : name.end ≡ at + length head = omega (arith, is.starts, is.named.ends) in
    ap (λ n. drop n s) ends
    ∙ sym (drop-drop (length head) at s)
    ∙ ap (drop (length head)) is.spelled
    ∙ drop-append_seam head (b ∷ drop (name.end + 1) s)

-- an item that is well-formed before any text that may follow it
one_tree_at : (s : List ℕ) (at to : ℕ) (item : Item) → IsItem item Empty
    → IsFollowed (Then item Empty) (drop to s)
    → drop at s ≡ item_text item ++ drop to s → to ≡ at + length (item_text item)
    → IsTreeAt s at to (Then item Empty)
one_tree_at s at to item valid followed at_tree ends = record {
  well_formed = (valid, tt);
  followed = followed;
  spelled = rw append-nil at_tree;
  ends = rw append-nil ends;
}

-- an escape
pub escape_tree_at : (s : List ℕ) (at b : ℕ) → IsEscape s at b
    → IsTreeAt s at (at + 2) (Then (Escaped b) Empty)
escape_tree_at s at b is = one_tree_at s at (at + 2) (Escaped b) is.special tt is.spelled refl

-- a name after a dollar
pub short_tree_at : (s : List ℕ) (at : ℕ) (name : Span) → IsShort s at name
    → IsTreeAt s at name.end (Then (Short (span_bytes name s)) Empty)
short_tree_at s at name is =
    one_tree_at s at name.end (Short (span_bytes name s)) (is.named.valid, tt) is.longest is.spelled
    (omega (arith, is.starts, is.named.ends))

-- a name in braces
pub braced_tree_at : (s : List ℕ) (at : ℕ) (name : Span) → IsInBraces s at name closing_brace
    → IsTreeAt s at (name.end + 1) (Then (Braced (span_bytes name s)) Empty)
braced_tree_at s at name is =
    one_tree_at s at (name.end + 1) (Braced (span_bytes name s)) is.named.valid tt
    (is.spelled ∙ rw append_assoc refl)
    (omega (arith, is.starts, is.named.ends, length-append (span_bytes name s) (closing_brace ∷ [])))

-- a name in braces with a question mark
pub optional_tree_at : (s : List ℕ) (at : ℕ) (name : Span) → IsOptional s at name
    → IsTreeAt s at (name.end + 2) (Then (Optional (span_bytes name s)) Empty)
optional_tree_at s at name is =
    one_tree_at s at (name.end + 2) (Optional (span_bytes name s)) is.head.named.valid tt
    (is.head.spelled ∙ rw (is.closed, append_assoc) refl)
    (omega (
      arith,
      is.head.starts,
      is.head.named.ends,
      length-append (span_bytes name s) (question_mark ∷ closing_brace ∷ []),
    ))

-- a name with a default that closes
pub default_tree_at : (s : List ℕ) (at to : ℕ) (name : Span) (t : Tree) → IsInBraces s at name colon
    → IsWellFormed t → IsBalanced (text t)
    → drop (name.end + 1) s ≡ text t ++ closing_brace ∷ drop to s → to ≡ name.end + 1 + length (text t) + 1
    → IsTreeAt s at to (Then (Default (span_bytes name s) t) Empty)
default_tree_at s at to name t is well_formed balanced at_tree ends =
    one_tree_at s at to (Default (span_bytes name s) t) (is.named.valid, well_formed, balanced) tt
    (is.spelled ∙ rw (at_tree, append_assoc, append_assoc) refl)
    (omega (
      arith,
      is.starts,
      is.named.ends,
      ends,
      length-append (span_bytes name s) (colon ∷ text t ++ closing_brace ∷ []),
      length-append (text t) (closing_brace ∷ []),
    ))
