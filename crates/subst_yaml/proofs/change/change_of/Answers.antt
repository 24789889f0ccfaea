-- The string is unchanged.
use Rattle.std.proofs.Common.{rules, string_bytes}
use Rattle.subst_yaml.specs.Filled.Stays.{itself}
use Rattle.subst_yaml.proofs.change.change_of.Goals as goal

pub returns-clause-ok : goal.returns-clause-ok
returns-clause-ok g c = itself (string_bytes c.in-Some.text) (search rules) (search rules)
