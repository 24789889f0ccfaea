-- The error of a call, from the error of one of its steps.
use Rattle.std.specs.Prelude.{◌≡◌, ⊤, ℕ, List, Option, Some, None, codes, IsSome}
use Rattle.serde_json.specs.Errors.{IsMemory}
use Rattle.serde_json.specs.declared.error.Error as reading
use Rattle.subst_error.specs.Display.{display_of_error}
use Rattle.subst_error.specs.ErrorFault.{error_fault}
use Rattle.subst_error.specs.declared.Error as substituting
use Rattle.subst_json.specs.declared.error.Error.{Error}
use Rattle.subst_json.specs.declared.error.Error.TheVariants.{Json, Subst, OutOfMemory}

-- the error is `Json` of the reader's error e, or `OutOfMemory` if e is a failure to allocate
abbrev pub IsOfReader : reading.Error → Error → Type 0
IsOfReader e (Json d) = (d ≡ e) × ¬ (IsMemory e)
IsOfReader e (Subst d) = ⊥
IsOfReader e (OutOfMemory d) = IsMemory e

-- the error is `Subst` of the substitution's error e, or `OutOfMemory` if e is a failure to allocate
abbrev pub IsOfSubstitution : substituting.Error → Error → Type 0
IsOfSubstitution e (Json d) = ⊥
IsOfSubstitution e (Subst d) = (d ≡ e) × IsSome (error_fault e)
IsOfSubstitution e (OutOfMemory d) = error_fault e ≡ None

-- the error wraps no failure to allocate in `Json` or `Subst`: such a failure is `OutOfMemory`
abbrev pub HasOwnMemory : Error → Type 0
HasOwnMemory (Json e) = ¬ (IsMemory e)
HasOwnMemory (Subst e) = IsSome (error_fault e)
HasOwnMemory (OutOfMemory e) = ⊤

-- the text of an error, or `None` for `Json e`, since the text of e isn't known
abbrev pub display_of_json : Error → Option (List ℕ)
display_of_json (Json e) = None
display_of_json (Subst e) = display_of_error (error_fault e)
display_of_json (OutOfMemory e) = Some (codes "out of memory")

-- if the error is `Subst` of an error of a substitution, P holds of that inner error
abbrev pub IfSubst : Error → (substituting.Error → Type 0) → Type 0
IfSubst (Json e) P = ⊤
IfSubst (Subst e) P = P e
IfSubst (OutOfMemory e) P = ⊤
