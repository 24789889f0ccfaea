-- Lemmas on runs with options.
use denote.Ref.{Bor}
use Rattle.std.proofs.Common.{◌≡◌, ◌==◌, ℕ, Bool, true, false, List, [], None, Option, OnOk, Result, Some, arith, inl, inr, refl, subst, sym}
use Rattle.std.proofs.lemmas.Grind.{common_steps}
use Rattle.std.specs.Prelude.{◌⊎◌, IsErr}
use Rattle.subst_cli.proofs.ExpandedLemmas.{keeps}
use Rattle.subst_cli.proofs.RunLemmas.{no_success}
use Rattle.subst_cli.proofs.WrittenLemmas.{no_calls}
use Rattle.subst_cli.specs.Expanded.{IsPrinted}
use Rattle.subst_cli.specs.Run.{entries_for}
use Rattle.subst_expander.specs.declared.layers.Layers.{Layers}
use Rattle.subst_filter_lib.specs.declared.status.TheConstants.{DONE}
use Rattle.subst_cli.specs.Files.{Event, OnlyReads}
use Rattle.subst_expander.specs.Layers.{AreVariablesOf, Entry, ForEntries, entries_of}
use Rattle.subst_cli.specs.Letters.{IsRowsRun, look_for}
use Rattle.subst_cli.specs.Status.{status_of}
use Rattle.subst_cli.specs.WholeRun.{Acts, ExpandsAll, HandlesTemplates, IsWholeRun, Performs}
use Rattle.subst_cli.specs.Written.{IsCheckRun, IsReplaceRun, IsRun, WritesInto, none_checked, none_replaced, none_written}
use Rattle.subst_expander.specs.declared.entry.Entry.{Entry as CodeEntry}
use Rattle.subst_expander.specs.declared.expansion.Expander.{Expander}
use Rattle.subst_expander.specs.declared.layers.Variables.{Variables}
use Rattle.subst_options.specs.declared.Action.{Action}
use Rattle.subst_options.specs.declared.Action.TheVariants.{Check, ListNames, Print, Replace, WriteInto, WriteTo}
use Rattle.subst_options.specs.declared.Options.{Options}
use Rattle.subst_options.specs.declared.RowsOptions.{RowsOptions}
use Rattle.subst_cli.specs.declared.report.Severity.{Severity}
use Rattle.subst_cli.specs.declared.templates.Template.{Template}

-- variables are those of the entries that they were made of
pub variables_for : (variables made : Variables) (entries items : List CodeEntry) → variables ≡ made
    → items ≡ entries → AreVariablesOf made (entries_of items) → AreVariablesOf variables (entries_of entries)
variables_for variables made entries items is same known = rw (is, sym same) known

-- an error was reported
pub is_reported : (empty : Bool) (worst : Severity) → empty ≡ (status_of worst == DONE) → empty ≡ false
    → ¬ (status_of worst ≡ DONE)
is_reported empty worst told is none = grind (arith, common_steps, told, is, none)

-- no error was reported
pub none_reported : (empty : Bool) (worst : Severity) → empty ≡ (status_of worst == DONE) → empty ≡ true
    → status_of worst ≡ DONE
none_reported empty worst told is = grind (arith, common_steps, told, is)

-- no rows are given
pub no_rows : (rows : Option RowsOptions) → ((it : RowsOptions) → ¬ (rows ≡ Some it)) → rows ≡ None
no_rows None other = refl
no_rows (Some it) other = absurd (other it refl)

module _ {E : Type 0} (options : Options) (worst : Severity) (result : Result (Unit {0}) E) where
  -- no template was handled, because memory ran out before
  pub none_handled : (entries : List Entry) (action : Action) (at : Option (List Event)) → IsErr result
      → HandlesTemplates options entries worst result action at at
  none_handled entries (WriteInto directory) at failed =
      ([], worst, ([], [], _, [], refl, none_written, no_calls at, no_success result _ failed))
  none_handled entries Replace at failed =
      ([], worst, ([], [], _, [], refl, ([], none_replaced), no_calls at, no_success result _ failed))
  none_handled entries Print at failed = ([], worst, (_, [], none_checked, no_calls at, inr refl))
  none_handled entries (WriteTo path) at failed = ([], worst, (_, [], none_checked, no_calls at, inr refl))
  none_handled entries Check at failed = ([], worst, (_, [], none_checked, no_calls at, inr refl))
  none_handled entries ListNames at failed = ([], worst, (_, [], none_checked, no_calls at, inr refl))

  module _ (expander : Expander) (entries all : List Entry) (same : entries ≡ all)
      (are : AreVariablesOf expander.variables entries) (formats : expander.formats ≡ options.formats)
      (placeholders : expander.placeholders.now ≡ options.placeholders) (templates : List Template)
      (before : Severity) (first last : Option (List Event)) where
    -- the outputs were written into a directory
    pub each_written : (action : Action) (directory : Bor (List ℕ)) → action ≡ WriteInto directory
        → ForEntries expander.variables (λ entries. IsRun (WritesInto expander.formats
        expander.placeholders.now entries directory.now (status_of before)) templates first last worst result)
        → HandlesTemplates options all worst result action first last
    each_written action directory is run =
        rw (is, sym formats, sym placeholders, sym same) (templates, before, run entries are)

    -- the templates were replaced
    pub each_replaced : (action : Action) → action ≡ Replace
        → ForEntries expander.variables (λ entries. IsReplaceRun expander.formats expander.placeholders.now
        entries before worst templates first last result)
        → HandlesTemplates options all worst result action first last
    each_replaced action is run =
        rw (is, sym formats, sym placeholders, sym same) (templates, before, run entries are)

    -- the templates were checked
    pub each_checked : (action : Action) → ((directory : Bor (List ℕ)) → ¬ (action ≡ WriteInto directory))
        → ¬ (action ≡ Replace)
        → ForEntries expander.variables (λ entries. IsCheckRun expander.formats expander.placeholders.now
        entries options.refuses_defaults before worst templates first last)
        → HandlesTemplates options all worst result action first last
    each_checked (WriteInto directory) other also run = absurd (other directory refl)
    each_checked Replace other also run = absurd (also refl)
    each_checked Print other also run =
        rw (sym formats, sym placeholders, sym same) (templates, before, run entries are)
    each_checked (WriteTo path) other also run =
        rw (sym formats, sym placeholders, sym same) (templates, before, run entries are)
    each_checked Check other also run =
        rw (sym formats, sym placeholders, sym same) (templates, before, run entries are)
    each_checked ListNames other also run =
        rw (sym formats, sym placeholders, sym same) (templates, before, run entries are)

  module _ (entries : List Entry) (before : Severity) (first last : Option (List Event))
      (old new : Option (List ℕ)) (action : Action) where
    -- the names were listed
    pub listed : action ≡ ListNames → OnlyReads first last
        → (text : List ℕ) × (status : ℕ) × IsPrinted text status old new
        → Performs options entries worst result action before first last old new
    listed is reads printed = rw is (reads, printed)

    -- the outputs were written to one place
    pub expanded : (action ≡ Print) ⊎ ((path : Bor (List ℕ)) × action ≡ WriteTo path)
        → ExpandsAll options entries worst result before first last old new
        → Performs options entries worst result action before first last old new
    expanded (inl is) run = rw is run
    expanded (inr (path, is)) run = rw is run

  -- each file was handled on its own
  pub handled : (entries : List Entry) (before : Severity) (first last : Option (List Event))
      (written : Option (List ℕ)) (action : Action)
      → (action ≡ Replace) ⊎ ((action ≡ Check) ⊎ ((directory : Bor (List ℕ)) × action ≡ WriteInto directory))
      → HandlesTemplates options entries worst result action first last
      → Performs options entries worst result action before first last written written
  handled entries before first last written action (inl is) each = rw is (keeps written, rw is at each)
  handled entries before first last written action (inr (inl is)) each = rw is (keeps written, rw is at each)
  handled entries before first last written action (inr (inr (directory, is))) each =
      rw is (keeps written, rw is at each)

  -- memory ran out or an error was reported before the action
  pub stopped_early : (first last : Option (List Event)) (written : Option (List ℕ)) → OnlyReads first last
      → OnOk result (¬ (status_of worst ≡ DONE)) → IsWholeRun options worst result first last written written
  stopped_early first last written reads why = inl (reads, keeps written, why)

  -- the action was performed
  pub performed : (first mid : Option (List Event)) (read : Layers) (before : Severity)
      (last : Option (List Event)) (old new : Option (List ℕ)) → OnlyReads first mid → status_of before ≡ DONE
      → ((rows : RowsOptions) → ¬ (options.rows ≡ Some rows))
      → Performs options (entries_for options read) worst result options.action before mid last old new
      → IsWholeRun options worst result first last old new
  performed first mid read before last old new reads none other performs =
      inr (read, mid, before, reads, none, rw (no_rows options.rows other) performs)

  -- the template was expanded for each row
  pub expanded_rows : (first mid : Option (List Event)) (read : Layers) (before : Severity)
      (last : Option (List Event)) (old new : Option (List ℕ)) → OnlyReads first mid → status_of before ≡ DONE
      → (rows : RowsOptions) → options.rows ≡ Some rows
      → IsRowsRun result options rows (look_for options read) worst before mid last old new
      → IsWholeRun options worst result first last old new
  expanded_rows first mid read before last old new reads none rows is run =
      inr (
        read,
        mid,
        before,
        reads,
        none,
        subst (λ asked. Acts asked options read worst result before mid last old new) (sym is) run,
      )
