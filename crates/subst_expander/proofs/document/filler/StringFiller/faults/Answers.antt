-- The faults are those of the string as a text.
use Rattle.std.proofs.Common.{◌≡◌, ◌∙◌, [], List, Result, Err, Ok, Some, Vec, Bor, ℕ, IfErr, IfOk, IsPermutation, ap, inl, inr, length}
use Rattle.std.proofs.lemmas.List.{nil_from_length}
use Rattle.std.proofs.lemmas.List.Sorted.{length_permutation}
use Rattle.std.specs.Global.{Global}
use Rattle.std.specs.Option.{unwrap_or}
use Rattle.std.specs.Result.{result_err}
use Rattle.subst_expander.specs.Faults.{AreFaultsOf}
use Rattle.subst_expander.specs.Fill.{GivesFor}
use Rattle.subst_expander.specs.Layers.{ForEntries}
use Rattle.subst_expander.specs.Strings.{AreFaults}
use Rattle.subst_expander.specs.declared.document.filler.StringFiller.{StringFiller}
use Rattle.subst_expander.specs.declared.fault.Fault.{Fault}
use Rattle.subst_expander.specs.declared.layers.Variables.{Variables}
use Rattle.subst_expander.proofs.document.filler.StringFiller.faults.Goals as goal
use Rattle.subst_expander.proofs.document.filler.StringFiller.faults.Goals.{in-Some+in_ok-fill_bytes-in-Some, in-None+in_ok-uses_in_bytes-in-None}

-- there are no faults and the string has an output, or they are the faults of the string in some order
faults_or_none : (filler : StringFiller) (s : List ℕ) (variables : Bor Variables)
    (result : Result (Vec ℕ Global) (Vec Fault Global)) (none : Vec Fault Global) (ordered : List Fault)
    → filler.variables ≡ Some variables
    → ForEntries variables.now
    (λ entries. IfOk result (λ output. GivesFor filler.placeholders.now entries s output.items))
    → ForEntries variables.now
    (λ entries. IfErr result (λ faults. AreFaultsOf filler.placeholders.now entries s faults.items))
    → none.items ≡ [] → IsPermutation (unwrap_or (result_err result) none).items ordered
    → AreFaults filler s ordered
faults_or_none filler s variables (Ok output) none ordered is gives refused empty order = inl (
  nil_from_length ordered (length_permutation none.items ordered order ∙ ap length empty),
  (output.items, (rw is tt, λ entries from. gives entries (rw is at from))),
)
faults_or_none filler s variables (Err faults) none ordered is gives refused empty order =
    inr (λ entries from. (faults.items, refused entries (rw is at from), order))

pub returns : goal.returns
returns c =
    let order = rw c.unwrap_or-faults.ensures at c.sort_unstable_by_key.ensures.permutation in
    elim c.match-self.branch [
      | in-Some+in_ok-fill_bytes-in-Some w ↦
          faults_or_none c.args.self.now c.args.text.now
          w.in-Some.variables w.in_ok-fill_bytes-in-Some.field-0 c.new.result _ w.in-Some.is
          (rw c.as_bytes-source.ensures.value at w.in_ok-fill_bytes-in-Some.ensures.gives)
          (rw c.as_bytes-source.ensures.value at w.in_ok-fill_bytes-in-Some.ensures.refused) c.new.ensures.items
          (rw (w.faults-is, w.err-faults.ensures.value) at order)
      | in-None+in_ok-uses_in_bytes-in-None w ↦ inr (λ entries from. absurd (rw w.in-None.is at from))
    ]
