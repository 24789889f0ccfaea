-- Errors of calls that fill in TOML: how they are made from errors of the reader or of a substitution, and
-- how they are displayed.
use Rattle.std.specs.Prelude.{◌≡◌, ⊤, ℕ, List, Option, Some, None, codes, IsSome}
use Rattle.toml.specs.Errors.{IsMemory}
use Rattle.toml.specs.declared.de.error.Error as reading
use Rattle.subst_error.specs.Display.{display_of_error}
use Rattle.subst_error.specs.ErrorFault.{error_fault}
use Rattle.subst_error.specs.declared.Error as substituting
use Rattle.subst_toml.specs.declared.error.Error.{Error}
use Rattle.subst_toml.specs.declared.error.Error.TheVariants.{InvalidUtf8, Toml, Subst, OutOfMemory}

-- the error is `Toml` of the reader's error e, or `OutOfMemory` if e is a failure to allocate
abbrev pub IsOfReader : reading.Error → Error → Type 0
IsOfReader e (InvalidUtf8 d) = ⊥
IsOfReader e (Toml d) = (d ≡ e) × ¬ (IsMemory e)
IsOfReader e (Subst d) = ⊥
IsOfReader e (OutOfMemory d) = IsMemory e

-- the error is `Subst` of the substitution's error e, or `OutOfMemory` if e is a failure to allocate
abbrev pub IsOfSubstitution : substituting.Error → Error → Type 0
IsOfSubstitution e (InvalidUtf8 d) = ⊥
IsOfSubstitution e (Toml d) = ⊥
IsOfSubstitution e (Subst d) = (d ≡ e) × IsSome (error_fault e)
IsOfSubstitution e (OutOfMemory d) = error_fault e ≡ None

-- a failure to allocate is `OutOfMemory`, and never the inner error of `Toml` or `Subst`
abbrev pub HasOwnMemory : Error → Type 0
HasOwnMemory (InvalidUtf8 e) = ⊤
HasOwnMemory (Toml e) = ¬ (IsMemory e)
HasOwnMemory (Subst e) = IsSome (error_fault e)
HasOwnMemory (OutOfMemory e) = ⊤

-- the text of an error, or `None` if no contract states the text, as for `InvalidUtf8 e` and `Toml e`
abbrev pub display_of_toml : Error → Option (List ℕ)
display_of_toml (InvalidUtf8 e) = None
display_of_toml (Toml e) = None
display_of_toml (Subst e) = display_of_error (error_fault e)
display_of_toml (OutOfMemory e) = Some (codes "out of memory")

-- if the error is `Subst` of an error of a substitution, P holds of that inner error
abbrev pub IfSubst : Error → (substituting.Error → Type 0) → Type 0
IfSubst (InvalidUtf8 e) P = ⊤
IfSubst (Toml e) P = ⊤
IfSubst (Subst e) P = P e
IfSubst (OutOfMemory e) P = ⊤
