-- The parts are those around the first `=`, and the test is that of a variable name.
use Rattle.std.proofs.Common.{None, Some, inr, lit<}
use Rattle.std.proofs.lemmas.Str.Pattern.{split_once_first}
use Rattle.subst_options.proofs.ArgumentLemmas.{misspelled_pair, no_pair, spelled_pair}
use Rattle.subst_filter_lib.specs.Arguments.{equals_sign}
use Rattle.subst_options.proofs.split_pair.Goals as goal

pub returns-in_default-clause-refused : goal.returns-in_default-clause-refused
returns-in_default-clause-refused c =
    inr (no_pair c.args.argument.now
    (split_once_first equals_sign c.args.argument.now None c.in_default.ensures.cases (lit< tt)))

pub returns-then-not-is_name-clause-refused : goal.returns-then-not-is_name-clause-refused
returns-then-not-is_name-clause-refused c =
    let parts = split_once_first equals_sign c.args.argument.now (Some (c.in-Some.name, c.in-Some.value))
    c.in-Some.ensures.cases (lit< tt) in
    let test = rw c.as_bytes.ensures.value at c.is_name.ensures.name in
    inr (misspelled_pair c.args.argument.now c.in-Some.name.now c.is_name.result parts.1 test
    c.if-not-is_name.true)

pub returns-clause-pair : goal.returns-clause-pair
returns-clause-pair c =
    let parts = split_once_first equals_sign c.args.argument.now (Some (c.in-Some.name, c.in-Some.value))
    c.in-Some.ensures.cases (lit< tt) in
    let test = rw c.as_bytes.ensures.value at c.is_name.ensures.name in
    spelled_pair c.args.argument.now c.in-Some.name.now c.in-Some.value.now c.is_name.result parts.0 parts.1
    parts.2 test c.if-not-is_name.false
