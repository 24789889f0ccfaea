-- The line is the first of the text.
use Rattle.std.proofs.Common.{string_bytes, sym}
use Rattle.subst_expander.proofs.DotenvLemmas.{after_setting_left, after_setting_stopped}
use Rattle.subst_expander.proofs.dotenv.add_line.Goals as goal
use Rattle.subst_expander.specs.Dotenv.{after_nothing, nothing, refused, wrong}
use Rattle.subst_expander.specs.Layers.{entries_of}

pub returns-in-Nothing-clause-goes_on : goal.returns-in-Nothing-clause-goes_on
returns-in-Nothing-clause-goes_on c above are =
    let is = sym (rw c.in-Nothing.is at c.in_ok-later.ensures.line) in
    record {
      leaves = λ after leaves. nothing c.in-Nothing.later.now is leaves;
      stops = λ rest cause stops. after_nothing c.in-Nothing.later.now is stops;
    }

pub returns-in-Wrong-clause-stops : goal.returns-in-Wrong-clause-stops
returns-in-Wrong-clause-stops c above are =
    wrong c.in-Wrong.why (sym (rw c.in-Wrong.is at c.in_ok-later.ensures.line))

pub returns-in-Ok-clause-goes_on : goal.returns-in-Ok-clause-goes_on
returns-in-Ok-clause-goes_on c above are =
    let before = entries_of c.args.set.now.entries.items in
    let more = entries_of c.add-in-Ok.new.self.entries.items in
    let is = rw c.in-Sets.is at c.in_ok-later.ensures.line in
    let value = string_bytes c.in-Ok.value in
    let expands = rw (c.in-Ok.is, c.deref-in-Sets.ensures.value) at
    (c.in_ok-value-in-Sets.ensures.gives above are before c.requires) in
    record {
      leaves = λ after leaves. after_setting_left above before more after c.args.text.now c.in-Sets.name.now
          c.in-Sets.value.items c.in-Sets.later.now value is expands c.in_ok-add-in-Ok.ensures.entries leaves;
      stops = λ rest cause stops. after_setting_stopped above before more rest cause c.args.text.now
          c.in-Sets.name.now c.in-Sets.value.items c.in-Sets.later.now value is expands
          c.in_ok-add-in-Ok.ensures.entries stops;
    }

pub returns-clause-stops : goal.returns-clause-stops
returns-clause-stops c above are =
    let before = entries_of c.args.set.now.entries.items in
    refused c.in-Sets.name.now c.in-Sets.value.items c.in-Sets.later.now
    (sym (rw c.in-Sets.is at c.in_ok-later.ensures.line))
    (rw (c.in-Err.is, c.deref-in-Sets.ensures.value) at
    (c.in_ok-value-in-Sets.ensures.refused above are before c.requires))
