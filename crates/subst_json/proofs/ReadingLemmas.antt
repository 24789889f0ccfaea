-- Results for a tree that was read, stated for the text.
use Rattle.std.proofs.Common.{◌≡◌, ℕ, List, Some, Result, Ok, Err, IfOk}
use Rattle.serde_json.specs.Data.{Data}
use Rattle.serde_json.specs.Read.{read}
use Rattle.serde_json.specs.View.{view}
use Rattle.serde_json.specs.declared.value.Value.{Value}
use Rattle.subst_error.specs.ErrorFault.{error_fault}
use Rattle.subst_error.specs.Fault.{Fault}
use Rattle.std.proofs.lemmas.Option.{IfSome_then}
use Rattle.subst_json.specs.Outcome.{ReadsAsTree, OnSubst}
use Rattle.subst_json.specs.declared.error.Error.{Error}
use Rattle.subst_json.specs.declared.error.Error.TheVariants.{Json, Subst, OutOfMemory}

module _ (text : List ℕ) (d : Data) (is : read text ≡ Some d) where
  -- a property of the returned tree and the tree of the text
  pub returned_as_read : (P : Data → Data → Type 0) (result : Result Value Error)
      → IfOk result (λ tree. P d (view tree)) → IfOk result (λ tree. ReadsAsTree text (λ e. P e (view tree)))
  returned_as_read P (Ok tree) h = (d, is, h)
  returned_as_read P (Err e) h = tt

  -- a property of the fault of a string in that tree
  pub refused_as_read : (P : Data → Fault → Type 0) (result : Result Value Error)
      → OnSubst result (P d) → OnSubst result (λ f. ReadsAsTree text (λ e. P e f))
  refused_as_read P (Ok tree) h = tt
  refused_as_read P (Err (Json e)) h = tt
  refused_as_read P (Err (Subst e)) h = IfSome_then (error_fault e) h (λ f refused. (d, is, refused))
  refused_as_read P (Err (OutOfMemory e)) h = tt
