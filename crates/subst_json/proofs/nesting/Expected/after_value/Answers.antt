-- An item goes before those after it.
use Rattle.std.proofs.Common.{◌∷◌, ◌++◌, sym, subst}
use Rattle.json.specs.Tree.{json_tokens}
use Rattle.subst_json.specs.Nesting.{AreExpected}
use Rattle.subst_json.proofs.NestingLemmas.{item_before}
use Rattle.subst_json.proofs.nesting.Expected.after_value.Goals as goal

pub returns-in-Item : goal.returns-in-Item
returns-in-Item c = λ j more rest deep h.
    subst (λ first. AreExpected (first ∷ more) (json_tokens j ++ rest)) (sym c.in-Item.is)
    (item_before more rest j deep h)
