-- Sources without `${name?}`.
use Rattle.std.proofs.Common.{◌≡◌, ℕ, ◌+◌, ◌<◌, ◌≤◌, List, [], ◌∷◌, ◌++◌, take, get_or, length, Option, Some, None, IfSome, sym, ap, ◌∙◌, arith}
use Rattle.std.proofs.lemmas.List.{map-append, take_more}
use Rattle.subst_error.specs.Fault.{Fault}
use Rattle.subst_error.specs.Range.{range_of}
use Rattle.subst_language.proofs.Language.RangeWithinLemmas.{fault_within}
use Rattle.subst_language.specs.Language.BadItem.{HasFault}
use Rattle.subst_c.specs.Cells.{strict_byte, without_optional}

-- the next byte is appended after those before it
pub one_more_byte : (s l : List ℕ) (i : ℕ) → i < length s → l ≡ without_optional (take i s)
    → l ++ strict_byte (get_or s i 0) ∷ [] ≡ without_optional (take (i + 1) s)
one_more_byte s l i below so_far =
    ap (λ it. it ++ strict_byte (get_or s i 0) ∷ []) so_far
    ∙ sym (map-append strict_byte (take i s) (get_or s i 0 ∷ []))
    ∙ ap without_optional (sym (take_more s i 0 below))

-- the range of a parse's fault ends within its source
pub parse_fault_within : (s : List ℕ) (o : Option Fault) → IfSome o (HasFault 0 s)
    → (range_of o).end ≤ length s
parse_fault_within s (Some f) is = omega (arith, fault_within is)
parse_fault_within s None is = omega arith
