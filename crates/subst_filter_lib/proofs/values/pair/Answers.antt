-- An argument has a name and a value if and only if it has an `=`.
use Rattle.std.proofs.Common.{lit<}
use Rattle.std.proofs.lemmas.Str.Pattern.{split_once_first}
use Rattle.subst_filter_lib.specs.Arguments.{equals_sign, is_equals_sign}
use Rattle.subst_filter_lib.proofs.ArgumentLemmas.{is_some_if_passes}
use Rattle.subst_filter_lib.proofs.values.pair.Goals as goal

pub returns-clause-form : goal.returns-clause-form
returns-clause-form c =
    let argument = c.args.argument.now in
    let cases = split_once_first equals_sign argument _ c.split_once.ensures.cases (lit< tt) in
    is_some_if_passes _ _ is_equals_sign argument _ cases
