-- The tree of indices is that of the document with indices in place of its strings.
use Rattle.std.proofs.Common.{◌≡◌, ℕ, ◌∙◌, Some, subst}
use Rattle.std.proofs.lemmas.Option.{IfSome_then}
use Rattle.std.proofs.lemmas.Result.{IfOk-weaker}
use Rattle.std.specs.Fmt.{decimal}
use Rattle.toml.specs.Parse.{parse_document}
use Rattle.toml.specs.View.{members_view, view}
use Rattle.toml.specs.declared.value.Value.TheVariants.{Table}
use Rattle.toml.proofs.Views.{view-Table}
use Rattle.subst_document.specs.Plain.{with_plain}
use Rattle.subst_document.specs.declared.edits.RefusalAt.{RefusalAt}
use Rattle.subst_toml.specs.Listed.{index_token, IsPathTo}
use Rattle.subst_toml.specs.Paths.{steps_of, Leads}
use Rattle.subst_toml.specs.declared.path.Path.{Path}
use Rattle.subst_toml.proofs.ListedLemmas.{AllZip-weaker}
use Rattle.subst_toml.proofs.document.indexed.TomlPathsPaths.paths_to.Goals as goal

pub returns : goal.returns
returns c =
    let it = c.args.self.now in
    let members = c.in-Some-2.members in
    let text = with_plain index_token it.source.now 0 0 it.list.now in
    let bytes : c.as_str.result.now ≡ text =
    c.as_str.ensures.value ∙ (rw c.in-Some.is at c.in_ok-indexed.ensures) in
    let reads : parse_document text ≡ Some (members_view members.entries) =
    subst (λ s. parse_document s ≡ Some (members_view members.entries)) bytes
    (rw c.in-Some-2.is at c.in_ok-members.ensures) in
    IfOk-weaker c.confirmed.result _ _ (λ paths h. IfSome_then paths h (λ paths h. AllZip-weaker
    (λ (refusal : RefusalAt ℕ) (path : Path). Leads (steps_of path) (view (Table members)) (decimal refusal.path))
    (λ refusal path. IsPathTo it.source.now it.list.now refusal.path path) (λ refusal path leads. (
      members_view members.entries,
      reads,
      subst (λ d. Leads (steps_of path) d (decimal refusal.path)) (view-Table members) leads,
    )) c.args.refused.now paths.items h)) c.confirmed.ensures
