-- The sources were read and expanded, and the outputs were handed on unless something was reported.
use Rattle.subst_cli.proofs.ExpandedLemmas.{all_refused, all_written, stopped}
use Rattle.subst_cli.specs.Run.{entries_for}
use Rattle.subst_cli.proofs.one_output.expand_all.Goals as goal

pub returns-in_err-sources : goal.returns-in_err-sources
returns-in_err-sources g c =
    let options = c.args.options.now in
    record {
      handed_on = stopped options.action options.formats options.placeholders (entries_for options c.args.read)
          options.files.items c.args.report.now.worst _ _ _ c.sources.result c.sources.new.report.worst _
          c.from_residual.result c.sources.ensures c.from_residual.ensures.0;
    }

pub returns-in_err-outputs : goal.returns-in_err-outputs
returns-in_err-outputs g c =
    let options = c.args.options.now in
    record {
      handed_on = stopped options.action options.formats options.placeholders (entries_for options c.args.read)
          options.files.items c.args.report.now.worst _ _ _ c.sources.result c.sources.new.report.worst _
          c.from_residual-in_err-outputs.result c.sources.ensures c.from_residual-in_err-outputs.ensures.0;
    }

pub returns-in_err-hint_unset : goal.returns-in_err-hint_unset
returns-in_err-hint_unset g c =
    let options = c.args.options.now in
    record {
      handed_on = stopped options.action options.formats options.placeholders (entries_for options c.args.read)
          options.files.items c.args.report.now.worst _ _ _ c.sources.result c.sources.new.report.worst _
          c.from_residual-in_err-hint_unset.result c.sources.ensures c.from_residual-in_err-hint_unset.ensures.0;
    }

pub returns-in-Ok : goal.returns-in-Ok
returns-in-Ok g c =
    let options = c.args.options.now in
    let outputs = rw c.in-Ok.is at c.in_ok-outputs.ensures.gives in
    record {
      handed_on = all_written options.action options.formats options.placeholders (entries_for options c.args.read)
          options.files.items c.args.report.now.worst _ _ _ c.in_ok-sources.sources c.sources.new.report.worst
          c.write_outputs.new.report.worst c.write_outputs.result c.in_ok-sources.ensures c.in-Ok.all.items _ _
          outputs (rw (c.deref.ensures.value, c.hint_unset.ensures) at c.write_outputs.ensures);
    }

pub returns-in-Err : goal.returns-in-Err
returns-in-Err g c =
    let options = c.args.options.now in
    let refused = rw c.in-Err.is at c.in_ok-outputs.ensures.refused in
    record {
      handed_on = all_refused options.action options.formats options.placeholders (entries_for options c.args.read)
          options.files.items c.args.report.now.worst _ _ _ c.in_ok-sources.sources c.sources.new.report.worst
          c.report_all.new.report.worst c.report_all.result c.in_ok-sources.ensures c.in-Err.refused.items refused.0
          refused.1 (rw (c.deref-in-Err.ensures.value, c.hint_unset.ensures) at c.report_all.ensures);
    }
