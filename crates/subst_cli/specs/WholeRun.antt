-- A run with options: it reads the variables, and then performs one action.
use Rattle.std.specs.Prelude.{◌≡◌, ◌⊎◌, ℕ, List, None, OnOk, Option, Result, Some}
use Rattle.std.specs.Io.KnownBytes.{Keeps}
use Rattle.subst_cli.specs.Expanded.{IsExpandRun, IsPrinted}
use Rattle.subst_cli.specs.Files.{Event, OnlyReads}
use Rattle.subst_expander.specs.Layers.{Entry}
use Rattle.subst_cli.specs.Letters.{IsRowsRun, look_for}
use Rattle.subst_cli.specs.Run.{entries_for}
use Rattle.subst_cli.specs.Status.{status_of}
use Rattle.subst_cli.specs.Written.{IsCheckRun, IsReplaceRun, IsRun, WritesInto}
use Rattle.subst_expander.specs.declared.layers.Layers.{Layers}
use Rattle.subst_options.specs.declared.Action.{Action}
use Rattle.subst_options.specs.declared.Action.TheVariants.{ListNames, Print, Replace, WriteInto, WriteTo}
use Rattle.subst_options.specs.declared.Options.{Options}
use Rattle.subst_options.specs.declared.RowsOptions.{RowsOptions}
use Rattle.subst_cli.specs.declared.report.Severity.{Severity}
use Rattle.subst_cli.specs.declared.templates.Template.{Template}
use Rattle.subst_filter_lib.specs.declared.status.TheConstants.{DONE}

module _ {E : Type 0} (options : Options) (entries : List Entry) (worst : Severity)
    (result : Result (Unit {0}) E) where
  -- The templates were handled one after the other, each as the action requires. `before` is the severity
  -- before that.
  abbrev pub HandlesEach : Action → (templates : List Template) → (before : Severity)
      → (first last : Option (List Event)) → Type 0
  HandlesEach (WriteInto directory) templates before first last =
      IsRun (WritesInto options.formats options.placeholders entries directory.now (status_of before)) templates
      first last worst result
  HandlesEach Replace templates before first last =
      IsReplaceRun options.formats options.placeholders entries before worst templates first last result
  HandlesEach _ templates before first last = IsCheckRun options.formats options.placeholders entries
      options.refuses_defaults before worst templates first last

  -- the same for some templates
  abbrev pub HandlesTemplates : Action → (first last : Option (List Event)) → Type 0
  HandlesTemplates action first last =
      (templates : List Template) × (before : Severity) × HandlesEach action templates before first last

  -- the sources were expanded, and the outputs written to one place
  abbrev pub ExpandsAll : (before : Severity) → (first last : Option (List Event)) → (old new : Option (List ℕ))
      → Type 0
  ExpandsAll before first last old new = IsExpandRun options.action options.formats options.placeholders entries
      worst result options.files.items before first last old new

  -- the action was performed
  abbrev pub Performs : Action → (before : Severity) → (first last : Option (List Event))
      → (old new : Option (List ℕ)) → Type 0
  Performs ListNames before first last old new = OnlyReads first last
      × ((text : List ℕ) × (status : ℕ) × IsPrinted text status old new)
  Performs Print before first last old new = ExpandsAll before first last old new
  Performs (WriteTo path) before first last old new = ExpandsAll before first last old new
  Performs action before first last old new = Keeps old new × HandlesTemplates action first last

-- the template was expanded for each row, or without rows, the action was performed
abbrev pub Acts : {E : Type 0} → Option RowsOptions → Options → Layers → (worst : Severity)
    → Result (Unit {0}) E → (before : Severity) → (first last : Option (List Event))
    → (old new : Option (List ℕ)) → Type 0
Acts None options read worst result before first last old new =
    Performs options (entries_for options read) worst result options.action before first last old new
Acts (Some rows) options read worst result before first last old new =
    IsRowsRun result options rows (look_for options read) worst before first last old new

-- A run with these options. The calls so far are `first` before the run, and `last` after it; all printed
-- bytes are `old` before it, and `new` after it. Some files are read for their variables. Then the action is
-- performed with these and all other variables, unless an error was reported or memory ran out.
abbrev pub IsWholeRun : {E : Type 0} → Options → (worst : Severity) → Result (Unit {0}) E
    → (first last : Option (List Event)) → (old new : Option (List ℕ)) → Type 0
IsWholeRun options worst result first last old new =
    (OnlyReads first last × Keeps old new × OnOk result (¬ (status_of worst ≡ DONE)))
    ⊎ ((read : Layers) × (mid : Option (List Event)) × (before : Severity) × OnlyReads first mid
    × (status_of before ≡ DONE)
    × Acts options.rows options read worst result before mid last old new)
