-- The part of each item of a source.
use Rattle.std.proofs.Common.{ℕ, ◌+◌, ◌<◌, ◌≤◌, List, length, refl, ap, append-nil, length-drop, arith}
use Rattle.std.proofs.lemmas.Bool.Decides.{nat_tests}
use Rattle.subst_language.specs.Language.Bytes.{closing_brace, question_mark, IsEscapable}
use Rattle.subst_language.specs.Language.Tree.{Tree, Empty, Then}
use Rattle.subst_language.specs.Language.Tree as tree
use Rattle.subst_language.specs.Parts.Span.{span_bytes}
use Rattle.subst_parse.specs.Placeholder.{IsEscape, IsShort, IsInBraces, IsOptional}
use Rattle.subst_parse.specs.Parsing.{IsPart}
use Rattle.subst_language.specs.declared.part.Span.{Span}
use Rattle.subst_language.specs.declared.part.Part.TheVariants.{Escaped, Variable, Default}
use Rattle.subst_language.proofs.Language.CountLemmas.{no_plain_ends}
use Rattle.subst_language.proofs.Language.ItemLemmas.{escape_balanced, short_balanced, braced_balanced, optional_balanced}
use Rattle.subst_language.proofs.PartsLemmas.{mean_escaped, mean_short, mean_braced, mean_optional}
use Rattle.subst_language.specs.Parts.Meaning.{kind_before}
use Rattle.subst_parse.proofs.TreeAtLemmas.{after_name, escape_tree_at, short_tree_at, braced_tree_at, optional_tree_at}

-- a special byte is a byte
escapable_small : (b : ℕ) → IsEscapable b → b < 256
escapable_small b special = grind (arith, nat_tests)

-- an escape
pub escape_part : (s : List ℕ) (at b i : ℕ) → IsEscape s at b → IsPart s at (at + 2) i (Escaped b)
escape_part s at b i is = record {
  tree = Then (tree.Escaped b) Empty;
  at = escape_tree_at s at b is;
  balanced = escape_balanced b;
  ends = no_plain_ends (tree.Escaped b) refl;
  mean = mean_escaped s i b at (escapable_small b is.special);
}

-- a name after a dollar
pub short_part : (s : List ℕ) (at : ℕ) (name : Span) (i : ℕ) → IsShort s at name
    → IsPart s at name.end i (Variable name)
short_part s at name i is = record {
  tree = Then (tree.Short (span_bytes name s)) Empty;
  at = short_tree_at s at name is;
  balanced = rw append-nil (short_balanced (span_bytes name s) is.named.valid);
  ends = no_plain_ends (tree.Short (span_bytes name s)) refl;
  mean = mean_short s i name at is.named.inside is.named.valid is.starts;
}

-- a name in braces
pub braced_part : (s : List ℕ) (at : ℕ) (name : Span) (i : ℕ) → IsInBraces s at name closing_brace
    → IsPart s at (name.end + 1) i (Variable name)
braced_part s at name i is = record {
  tree = Then (tree.Braced (span_bytes name s)) Empty;
  at = braced_tree_at s at name is;
  balanced = rw append-nil (braced_balanced (span_bytes name s) is.named.valid);
  ends = no_plain_ends (tree.Braced (span_bytes name s)) refl;
  mean = mean_braced s i name at is.named.inside is.named.valid is.starts;
}

-- a name in braces with a question mark, whose jump leads to the next part
pub optional_part : (s : List ℕ) (at : ℕ) (name : Span) (i : ℕ) → IsOptional s at name
    → IsPart s at (name.end + 2) i (Default name (i + 1))
optional_part s at name i is = record {
  tree = Then (tree.Optional (span_bytes name s)) Empty;
  at = optional_tree_at s at name is;
  balanced = rw append-nil (optional_balanced (span_bytes name s) is.head.named.valid);
  ends = no_plain_ends (tree.Optional (span_bytes name s)) refl;
  mean =
      mean_optional s i name at is.head.named.inside is.head.named.valid is.head.starts
      (ap kind_before (after_name s at name question_mark is.head));
}

-- an escape is in the source
pub escape_within : (s : List ℕ) (at b : ℕ) → IsEscape s at b → at ≤ length s → at + 2 ≤ length s
escape_within s at b is inside = omega (arith, simp length-drop at (ap length is.spelled))
