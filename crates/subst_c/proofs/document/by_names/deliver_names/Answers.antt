-- The names and their ends are written.
use Rattle.std.proofs.Common.{map, string_bytes, sym}
use Rattle.std.proofs.lemmas.List.{length-map}
use Rattle.subst_c.proofs.DocumentNamesLemmas.{names_written}
use Rattle.subst_c.proofs.document.by_names.deliver_names.Goals as goal

pub returns-in-Ok-clause-names : goal.returns-in-Ok-clause-names
returns-in-Ok-clause-names c =
    names_written (map string_bytes c.args.names.now) _ _ _ _ _ _ _ _ _ _ _ c.in-Ok.ensures.0 c.in-Ok.ensures.1
    c.deliver.ensures.needed (sym (length-map c.args.names.now string_bytes)) c.deliver.ensures.done
    c.deliver.ensures.too_small c.deliver.ensures.kept c.deliver.ensures.others
