-- The variables are read, and then the action is performed unless an error was reported.
use Rattle.std.proofs.Common.{Ok}
use Rattle.std.specs.declared.alloc.AllocError.{AllocError}
use Rattle.subst_cli.proofs.RunLemmas.{no_success}
use Rattle.subst_cli.proofs.WholeRunLemmas.{expanded, expanded_rows, handled, is_reported, listed, none_reported, performed, stopped_early}
use Rattle.subst_cli.proofs.run.run_options.Goals as goal

pub returns-in_err-variables : goal.returns-in_err-variables
returns-in_err-variables g c = record {
  whole = stopped_early c.args.options.now _ c.from_residual.result _ _ _ c.in_err-variables.ensures
      (no_success c.from_residual.result _ c.from_residual.ensures.0);
}

pub returns-in_err-read : goal.returns-in_err-read
returns-in_err-read g c = record {
  whole = stopped_early c.args.options.now _ c.from_residual-in_err-read.result _ _ _ c.in_ok-variables.ensures
      (no_success c.from_residual-in_err-read.result _ c.from_residual-in_err-read.ensures.0);
}

pub returns-then-not-is_empty : goal.returns-then-not-is_empty
returns-then-not-is_empty g c = record {
  whole = stopped_early {E = AllocError} c.args.options.now _ (Ok tt) _ _ _ c.in_ok-variables.ensures
      (is_reported c.is_empty.result _ c.is_empty.ensures c.if-not-is_empty.true);
}

pub returns-in-Some : goal.returns-in-Some
returns-in-Some g c = record {
  whole = expanded_rows c.args.options.now _ c.expand_rows.result _ _ c.in_ok-read.read
      c.layers.new.report.worst _ _ _ c.in_ok-variables.ensures
      (none_reported c.is_empty.result _ c.is_empty.ensures c.if-not-is_empty.false)
      c.in-Some.rows c.in-Some.is c.expand_rows.ensures.rows;
}

pub returns-in-ListNames : goal.returns-in-ListNames
returns-in-ListNames g c = record {
  whole = performed c.args.options.now _ c.list.result _ _ c.in_ok-read.read c.layers.new.report.worst _ _ _
      c.in_ok-variables.ensures (none_reported c.is_empty.result _ c.is_empty.ensures c.if-not-is_empty.false)
      c.in_default.not-Some (listed c.args.options.now _ c.list.result _ _ _ _ _ _ _ c.in-ListNames.is
      c.list.ensures.reads c.list.ensures.printed);
}

pub returns-in-Print : goal.returns-in-Print
returns-in-Print g c = record {
  whole = performed c.args.options.now _ c.expand_all.result _ _ c.in_ok-read.read c.layers.new.report.worst _ _ _
      c.in_ok-variables.ensures (none_reported c.is_empty.result _ c.is_empty.ensures c.if-not-is_empty.false)
      c.in_default.not-Some (expanded c.args.options.now _ c.expand_all.result _ _ _ _ _ _ _ c.in-Print.is
      c.expand_all.ensures.handed_on);
}

pub returns-in-Replace : goal.returns-in-Replace
returns-in-Replace g c = record {
  whole = performed c.args.options.now _ c.run_per_file.result _ _ c.in_ok-read.read c.layers.new.report.worst _ _ _
      c.in_ok-variables.ensures (none_reported c.is_empty.result _ c.is_empty.ensures c.if-not-is_empty.false)
      c.in_default.not-Some (handled c.args.options.now _ c.run_per_file.result _ _ _ _ _ _ c.in-Replace.is
      c.run_per_file.ensures);
}
