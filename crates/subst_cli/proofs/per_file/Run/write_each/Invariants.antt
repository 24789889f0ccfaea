-- The outputs of the templates so far are written, and `taken` has their paths.
use Rattle.std.proofs.Common.{◌≡◌, ℕ, List, take}
use Rattle.std.specs.HashSet.{contains_text}
use Rattle.subst_cli.proofs.RunLemmas.{HasWritten}
use Rattle.subst_expander.specs.Layers.{AreVariablesOf, Entry}
use Rattle.subst_cli.specs.Status.{status_of}
use Rattle.subst_cli.specs.Written.{is_taken}
use Rattle.subst_cli.proofs.per_file.Run.write_each.Given as goal

abbrev pub invariant-loop-template : goal.invariant-loop-template
invariant-loop-template g l = record {
  written : (entries : List Entry) → AreVariablesOf l.self.expander.variables entries
      → HasWritten l.self.expander.formats l.self.expander.placeholders.now entries
      (status_of l.fn.report.worst) (g.F.Files.history l.fn.files) l.directory
      (take l.template-index l.templates) (g.F.Files.history l.files) l.report.worst;
  taken : (path : List ℕ) → contains_text l.taken path
      ≡ is_taken l.directory (take l.template-index l.templates) path;
}
