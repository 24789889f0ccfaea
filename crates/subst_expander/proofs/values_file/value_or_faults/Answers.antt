-- The value is the text, or the fault is that the bytes are none.
use Rattle.std.proofs.Common.{refl, rules}
use Rattle.std.proofs.lemmas.Str.{is_utf8-from_IsUtf8}
use Rattle.subst_expander.proofs.values_file.value_or_faults.Goals as goal

pub returns-clause-gives : goal.returns-clause-gives
returns-clause-gives c =
    rw (
      is_utf8-from_IsUtf8 c.args.bytes.now c.in-Ok.ensures.1,
      c.in_ok-push.ensures.items,
      c.new-entries.ensures.items,
      c.in_ok-from_str.ensures.ok,
      c.in-Ok.ensures.0,
    ) refl

pub returns-in_default-clause-refused : goal.returns-in_default-clause-refused
returns-in_default-clause-refused c = c.in_ok-not_utf8.ensures (search rules)
