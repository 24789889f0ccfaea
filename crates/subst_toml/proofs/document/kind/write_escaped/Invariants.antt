use Rattle.std.proofs.Common.{◌≡◌, ◌++◌, ℕ, List, string_bytes}
use Rattle.subst_toml.proofs.document.kind.write_escaped.Given as goal

-- bytes were appended to the output
abbrev pub invariant-loop-c : goal.invariant-loop-c
invariant-loop-c l = (spelled : List ℕ) × (string_bytes l.output ≡ string_bytes l.initial.output ++ spelled)
