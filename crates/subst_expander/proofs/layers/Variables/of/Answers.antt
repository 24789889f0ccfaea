-- The next entry sets its name, unless an earlier one has.
use Rattle.std.proofs.Common.{sym, map, take, string_bytes, ◌∙◌}
use Rattle.std.proofs.Math.Path.{fun_ext}
use Rattle.std.proofs.lemmas.List.{take_all}
use Rattle.subst_expander.specs.Layers.{entry_of}
use Rattle.subst_expander.proofs.LayerLemmas.{is_unreadable-append, look_up_in-append, map_take, no_value}
use Rattle.subst_expander.proofs.layers.Variables.of.Goals as goal

pub loop-entry-preserved : goal.loop-entry-preserved
loop-entry-preserved c = λ name.
    let item = c.entry-item in
    let at = c.loop-entry.entry-index in
    let so_far = map entry_of (take at c.args.entries.now) in
    let more = map_take entry_of c.args.entries.now at item.result c.loop-entry-test.true item.is in
    let known = c.loop-entry.invariant name in
    let values = rw (known.0, known.1) at (c.in_ok-add.ensures.values name) in
    let told = rw (no_value string_bytes item.result.value) at (c.in_ok-add.ensures.unreadable name) in
    let unreadable = rw (known.0, known.1) at told in (
      rw more (values ∙ sym (look_up_in-append so_far (entry_of item.result) name)),
      rw more (unreadable ∙ sym (is_unreadable-append so_far (entry_of item.result) name)),
    )

pub returns : goal.returns
returns c =
    let entries = c.args.entries.now in
    let all = take_all c.loop-entry.entry-index entries c.loop-entry-test.false in
    let each = rw all at c.loop-entry.invariant in
    record {
      variables =
          record { values = fun_ext (λ name. (each name).0); unreadable = fun_ext (λ name. (each name).1) };
    }
