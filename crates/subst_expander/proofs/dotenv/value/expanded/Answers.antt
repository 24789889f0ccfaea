-- The expanded text is its value under the entries.
use Rattle.std.proofs.Common.{Err, map, sym, subst, string_bytes}
use Rattle.std.proofs.lemmas.List.Elements.{All-map}
use Rattle.subst.specs.Reading.{variable_of, Listing}
use Rattle.subst_expander.specs.Dotenv.{look_up_after, look_up_by, shell, IsValueOf}
use Rattle.subst_expander.specs.Layers.{IsUnreadable}
use Rattle.subst_expander.proofs.DotenvLemmas.{missing_named, names_unreadable, value_after}
use Rattle.subst_expander.proofs.dotenv.value.expanded.Goals as goal

pub returns-in-Some-2-clause-refused : goal.returns-in-Some-2-clause-refused
returns-in-Some-2-clause-refused c above are before have =
    names_unreadable above c.args.text.now c.in-Some.text.now _ c.in-Some-2.name
    (map variable_of c.in_ok-variables.variables.items) c.in_ok-variables.ensures c.in-Some.ensures.0
    (rw c.in-Some-2.is at (c.in_ok-name.ensures.one above are)) c.in_ok-from_str.ensures.ok

pub returns-in-Ok-clause-gives : goal.returns-in-Ok-clause-gives
returns-in-Ok-clause-gives c above are before have =
    let items = c.in_ok-variables.variables.items in
    record {
      variables = map variable_of items;
      listed = subst (λ s. Listing shell 0 0 s (map variable_of items)) c.in-Some.ensures.0
          c.in_ok-variables.ensures;
      readable = All-map (λ v. ¬ (IsUnreadable above v.name)) variable_of items
          (c.in_ok-name.ensures.none above are c.in_default-2.is);
      value = value_after c.args.scope.now above before are have c.args.text.now c.in-Some.text.now _
          c.in-Some.ensures.0 c.in-Ok.ensures.value;
    }

pub returns-in_ok-unset-in-Err-Variable-NoSuchVariable-clause-refused : goal.returns-in_ok-unset-in-Err-Variable-NoSuchVariable-clause-refused
returns-in_ok-unset-in-Err-Variable-NoSuchVariable-clause-refused c above are before have =
    let e = c.in-Err-Variable-NoSuchVariable in
    let missing = rw (e.field-0-is, e.field-0-0-is) at e.ensures.fault in
    let value = missing_named (look_up_by c.args.scope.now) c.in-Some.text.now e.e.position (string_bytes e.e.name)
    missing in
    subst (λ name. IsValueOf (look_up_after above before) c.args.text.now (Err name))
    (sym c.in_ok-unset-in-Err-Variable-NoSuchVariable.ensures)
    (value_after c.args.scope.now above before are have c.args.text.now c.in-Some.text.now _ c.in-Some.ensures.0
    value)
