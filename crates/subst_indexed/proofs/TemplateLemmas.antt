-- Templates as cells: their expansion by a walk over the cells of their parts.
use Rattle.std.proofs.Common.{◌≡◌, ℕ, Bool, true, false, Some, None, List, [], ◌++◌, length, length-append, append-nil, nat_eq, nat_le, eq-eqb, ◌≤◌, Result, Ok, Err, refl, sym, ap, ◌∙◌, subst, arith}
use Rattle.std.proofs.Math.Seq.{take-append_seam}
use Rattle.std.proofs.lemmas.Bool.Decides.{nat_tests}
use Rattle.std.specs.Prelude.{if◌then◌else◌}
use Rattle.subst_indexed.specs.Expansion.{Expansion, Gives, Breaks, Values, after, expansion, cells_written}
use Rattle.subst_indexed.specs.Outcome.{AppendsTemplate, IsOutcome}
use Rattle.subst_indexed.specs.Template.{check_sum, is_whole, part_cells, template_cells, template_expansion, template_written}
use Rattle.subst_indexed.specs.Walk.{Walks}
use Rattle.subst_indexed.specs.declared.cell.Cell.{Cell}
use Rattle.subst_indexed.specs.declared.walk.Stop.{Stop}
use Rattle.subst_indexed.specs.declared.walk.Stop.TheVariants.{Full, Missing, Asks, NotATemplate}

-- an error states the same expansion, whatever the call returns
pub outcome_of_err : {T U : Type 0} (is_unasked : ℕ → Type 0) (e : Expansion) (stop : Stop)
    (P : T → List ℕ → Type 0) (Q : U → List ℕ → Type 0) → IsOutcome is_unasked e (Err stop) P
    → IsOutcome is_unasked e (Err stop) Q
outcome_of_err is_unasked e (Full failed) P Q is = tt
outcome_of_err is_unasked e (Missing name) P Q is = is
outcome_of_err is_unasked e (Asks number) P Q is = is
outcome_of_err is_unasked e NotATemplate P Q is = is

module _ {W First : Type 0} (holds : W → First → List ℕ → Type 0) (len capacity : W → ℕ)
    (is_unasked : ℕ → Type 0) (Agrees : Values → Type 0) (cells : List Cell) (s : List ℕ) where
  -- cells that are no template are expanded to nothing
  no_template : ((values : Values) → template_expansion cells s values ≡ Breaks) → (output : W)
      → AppendsTemplate holds len capacity is_unasked Agrees cells s (Err NotATemplate) output output
  no_template breaks output = record {
    bytes = [];
    puts = λ first x held. subst (holds output first) (sym (append-nil x)) held;
    long = tt;
    outcome = λ values agrees. breaks values;
    full = λ values agrees. tt;
  }

  -- cells with no head
  pub no_head : None ≡ part_cells cells (length s) → (output : W)
      → AppendsTemplate holds len capacity is_unasked Agrees cells s (Err NotATemplate) output output
  no_head is output = no_template (λ values. rw (← is) (either (is_whole cells))) output
    where
      either : (b : Bool) → (if b then Breaks else Breaks) ≡ Breaks
      either true = refl
      either false = refl

  -- cells with a wrong check sum
  pub not_whole : is_whole cells ≡ false → (output : W)
      → AppendsTemplate holds len capacity is_unasked Agrees cells s (Err NotATemplate) output output
  not_whole is output = no_template (λ values. rw is refl) output

  module _ (parts : List Cell) (parts_are : Some parts ≡ part_cells cells (length s))
      (whole : is_whole cells ≡ true) where
    -- a template's expansion is that of its parts
    template_expansion-parts : (values : Values) → template_expansion cells s values ≡ expansion parts 0 s values
    template_expansion-parts values = rw (whole, ← parts_are) refl

    template_written-parts : (values : Values)
        → template_written cells s values ≡ cells_written parts 0 s values
    template_written-parts values = rw (whole, ← parts_are) refl

    -- a walk over the parts appends the template's expansion
    pub template_walked : (to : ℕ) (result : Result (Unit {0}) Stop) (before now : W)
        → Walks holds len capacity is_unasked Agrees parts s result 0 to before now
        → AppendsTemplate holds len capacity is_unasked Agrees cells s result before now
    template_walked to (Ok done) before now (so_far, ends) = record {
      bytes = so_far.bytes;
      puts = so_far.puts;
      long = so_far.long;
      outcome = λ values agrees. (
        so_far.bytes,
        template_expansion-parts values ∙ so_far.goes_on values agrees
            ∙ ap (after so_far.bytes) (ends values agrees) ∙ ap Gives (append-nil so_far.bytes),
        refl,
      );
      full = λ values agrees. tt;
    }
    template_walked to (Err (Missing name)) before now (so_far, ends) = record {
      bytes = so_far.bytes;
      puts = so_far.puts;
      long = tt;
      outcome = λ values agrees.
          template_expansion-parts values ∙ so_far.goes_on values agrees
          ∙ ap (after so_far.bytes) (ends values agrees);
      full = λ values agrees. tt;
    }
    template_walked to (Err NotATemplate) before now (so_far, ends) = record {
      bytes = so_far.bytes;
      puts = so_far.puts;
      long = tt;
      outcome = λ values agrees.
          template_expansion-parts values ∙ so_far.goes_on values agrees
          ∙ ap (after so_far.bytes) (ends values agrees);
      full = λ values agrees. tt;
    }
    template_walked to (Err (Asks number)) before now (so_far, unasked) = record {
      bytes = so_far.bytes;
      puts = so_far.puts;
      long = tt;
      outcome = λ values agrees. unasked;
      full = λ values agrees. tt;
    }
    template_walked to (Err (Full failed)) before now (some, small) = record {
      bytes = some.0;
      puts = some.1;
      long = tt;
      outcome = λ values agrees. tt;
      full = λ values agrees.
          omega (arith, small values agrees, ap length (template_written-parts values));
    }

-- a template's cells have a right head and a right check sum
pub template_cells-expansion : (s : List ℕ) (parts names : List Cell) (values : Values)
    → template_expansion (template_cells (length s) parts names) s values ≡ expansion parts 0 s values
template_cells-expansion s parts names values =
    let right = check_sum (length parts) (parts ++ names) in
    let sum : nat_eq right right ≡ true = eq-eqb right right refl in
    let long : nat_eq (length s) (length s) ≡ true = eq-eqb (length s) (length s) refl in
    let more : length parts ≤ length (parts ++ names) = omega (arith, length-append parts names) in
    let fits : nat_le (length parts) (length (parts ++ names)) ≡ true = grind (arith, nat_tests, more) in
    rw (sum, long, fits, take-append_seam parts names) refl
