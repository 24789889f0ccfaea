use Rattle.std.proofs.Common.{rules, string_bytes}
use Rattle.subst_yaml.proofs.DocumentLemmas.{unchanged_document}
use Rattle.subst_yaml.proofs.document.fill_in_by.Goals as goal

pub returns-in_ok-from_str-in-None : goal.returns-in_ok-from_str-in-None
returns-in_ok-from_str-in-None g c = record {
  filled = record {
    output = unchanged_document (g.F.Fill.answers c.args.filler.now) c.args.source.now
        (string_bytes c.in_ok-from_str-in-None.field-0) (search rules) (search rules);
    unconfirmed = search rules;
    yaml = search rules;
    inside = search rules;
    subst = search rules;
    range = search rules;
    memory = search rules;
  };
}
