-- The templates are handled as the action requires, unless memory runs out before.
use Rattle.std.proofs.Common.{Ok}
use Rattle.std.specs.declared.alloc.AllocError.{AllocError}
use Rattle.subst_cli.proofs.WholeRunLemmas.{each_checked, each_replaced, each_written, none_handled, variables_for}
use Rattle.subst_cli.proofs.run.run_per_file.Goals as goal

pub returns-in_err-entries : goal.returns-in_err-entries
returns-in_err-entries g c =
    none_handled c.args.options.now _ c.from_residual.result _ c.args.options.now.action _
    c.from_residual.ensures.0

pub returns-in_err-variables : goal.returns-in_err-variables
returns-in_err-variables g c =
    none_handled c.args.options.now _ c.from_residual-in_err-variables.result _ c.args.options.now.action _
    c.from_residual-in_err-variables.ensures.0

pub returns-in_err-templates : goal.returns-in_err-templates
returns-in_err-templates g c =
    none_handled c.args.options.now _ c.from_residual-in_err-templates.result _ c.args.options.now.action _
    c.from_residual-in_err-templates.ensures.0

pub returns-in-WriteInto : goal.returns-in-WriteInto
returns-in-WriteInto g c =
    let are = variables_for c.expander_of.result.variables _ c.in_ok-entries.entries.items _
    c.expander_of.ensures.variables c.deref.ensures.value c.in_ok-variables.ensures.variables in
    each_written c.args.options.now _ c.write_each.result c.expander_of.result _ _ c.in_ok-entries.ensures are
    c.expander_of.ensures.formats c.expander_of.ensures.placeholders _ _ _ _ _ c.in-WriteInto.directory
    c.in-WriteInto.is c.write_each.ensures.written

pub returns-in-Replace : goal.returns-in-Replace
returns-in-Replace g c =
    let are = variables_for c.expander_of.result.variables _ c.in_ok-entries.entries.items _
    c.expander_of.ensures.variables c.deref.ensures.value c.in_ok-variables.ensures.variables in
    each_replaced c.args.options.now _ c.replace_each.result c.expander_of.result _ _ c.in_ok-entries.ensures are
    c.expander_of.ensures.formats c.expander_of.ensures.placeholders _ _ _ _ _ c.in-Replace.is
    c.replace_each.ensures.replaced

pub returns : goal.returns
returns g c =
    let are = variables_for c.expander_of.result.variables _ c.in_ok-entries.entries.items _
    c.expander_of.ensures.variables c.deref.ensures.value c.in_ok-variables.ensures.variables in
    each_checked {E = AllocError} c.args.options.now _ (Ok tt) c.expander_of.result _ _ c.in_ok-entries.ensures are
    c.expander_of.ensures.formats c.expander_of.ensures.placeholders _ _ _ _ _ c.in_default.not-WriteInto
    c.in_default.not-Replace c.check_each.ensures.checked
