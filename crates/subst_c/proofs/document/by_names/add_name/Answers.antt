-- The map and the list have one more name.
use Rattle.std.proofs.Common.{◌≡◌, [], ◌∷◌, ◌++◌, ◌∙◌, ap, map, string_bytes, subst, sym}
use Rattle.std.proofs.lemmas.List.{map-append}
use Rattle.subst_c.specs.DocumentNames.{KnowsNames}
use Rattle.subst_c.proofs.DocumentNamesLemmas.{knows_more}
use Rattle.subst_c.proofs.document.by_names.add_name.Goals as goal

pub returns-clause-known : goal.returns-clause-known
returns-clause-known c =
    let names = map string_bytes c.args.names.now.items in
    let name = c.args.name.now in
    let pushed : map string_bytes c.push.new.self.items ≡ names ++ name ∷ [] =
    ap (map string_bytes) c.in_ok-push.ensures.items
    ∙ map-append string_bytes c.args.names.now.items (c.in_ok-from_str.field-0 ∷ [])
    ∙ ap (λ y. names ++ y ∷ []) c.in_ok-from_str.ensures.ok in
    subst (KnowsNames c.insert_if_new.new.index) (sym pushed)
    (knows_more c.args.known.now c.insert_if_new.new.index names name _ c.requires c.if-is_known.ensures
    (λ other. rw c.as_bytes.ensures.value at (c.in_ok-insert_if_new.ensures other)))
