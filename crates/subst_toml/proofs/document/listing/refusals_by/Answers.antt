-- The refused strings are all of them, and the tree is that of the text.
use Rattle.std.proofs.Common.{◌≡◌, Some, subst, rules}
use Rattle.std.proofs.lemmas.Option.{IfSome_then}
use Rattle.std.specs.List.{AllByRecursion}
use Rattle.toml.specs.Parse.{parse_document}
use Rattle.toml.specs.View.{members_view}
use Rattle.toml.proofs.Views.{view-Table}
use Rattle.subst_toml.specs.Filled.{IsFound}
use Rattle.subst_toml.proofs.ListedLemmas.{all_refused}
use Rattle.subst_toml.proofs.document.listing.refusals_by.Goals as goal

pub returns : goal.returns
returns g c =
    let source = c.args.source.now in
    let members = c.in_ok-table_from_str.field-0 in
    let is : parse_document source ≡ Some (members_view members.entries) = search rules in record {
      listed = record {
        list = IfSome_then c.in_ok-refusals_of.field-0 c.in_ok-refusals_of.ensures (λ all h.
            all_refused (g.F.Fill.answers c.args.filler.now) source all.items h.0 (
              members_view members.entries,
              is,
              subst (λ d. AllByRecursion (IsFound source d) all.items) (view-Table members) h.1,
            ));
        is_toml = search rules;
        toml = search rules;
        span = search rules;
        subst = search rules;
        memory = search rules;
      };
    }
