-- The properties of the table that was read, stated for the text.
use Rattle.std.proofs.Common.{◌≡◌, Some, rules}
use Rattle.toml.specs.Parse.{parse_document}
use Rattle.toml.specs.View.{members_view}
use Rattle.subst_toml.proofs.ReadingLemmas.{refused_as_read}
use Rattle.subst_toml.proofs.filled_table.Goals as goal

pub returns-in_err-filled_members-clause-subst : goal.returns-in_err-filled_members-clause-subst
returns-in_err-filled_members-clause-subst g c =
    let failed = c.in_err-filled_members in
    let gone = c.from_residual-in_err-filled_members in
    let ms = members_view c.in_ok-table.table.entries in
    let is : parse_document c.args.source.now ≡ Some ms = search rules in
    refused_as_read _ c.args.source.now ms failed.field-0.0 gone.result is gone.ensures.1
    failed.ensures.err
