-- A `String` is UTF-8.
use Rattle.std.proofs.Common.{rules, string_bytes}
use Rattle.subst_yaml.proofs.StringLemmas.{no_text, text_is}
use Rattle.subst_yaml.proofs.change.text_of.Goals as goal

pub returns-in-Ok : goal.returns-in-Ok
returns-in-Ok c = text_is c.args.bytes.items (string_bytes c.in-Ok.text) (search rules) (search rules)

pub returns : goal.returns
returns c = no_text c.args.bytes.items (search rules)
