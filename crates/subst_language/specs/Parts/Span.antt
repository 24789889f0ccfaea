-- Byte ranges of a source.
use Rattle.std.specs.Prelude.{ℕ, ◌≤◌, List, length, slice_range}
use Rattle.subst_language.specs.declared.part.Span.{Span}

-- the bytes of the source s in the span
abbrev pub span_bytes : Span → List ℕ → List ℕ
span_bytes span s = slice_range s span.start span.end

-- the span is in the source s
pub record IsSpan (s : List ℕ) (span : Span) : Type 0 where
  pub ordered : span.start ≤ span.end
  pub within : span.end ≤ length s
