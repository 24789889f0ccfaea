-- The next string changes if it is the first of the list.
use Rattle.std.proofs.Common.{rules, ◌≡◌, ◌∷◌, ◌++◌, ◌+◌, drop, length, subst, sym, take}
use Rattle.std.proofs.lemmas.List.{take-append-drop}
use Rattle.subst_language.specs.Language.Several.{GivesBy}
use Rattle.subst_document.proofs.StaysLemmas.{first_value}
use Rattle.subst_json.proofs.compared.RemainingStrings.check_string.Goals as goal

pub returns-in-Some-split_at_checked : goal.returns-in-Some-split_at_checked
returns-in-Some-split_at_checked g c = λ is rest left.
    let Becomes = GivesBy (g.F.Fill.answers c.args.filler.now) in
    let first = c.in-Some-split_first.first.now in
    let more = c.in-Some-split_first.list.now in
    let cut = c.in-Some-split_at_checked in
    let list : c.args.self.now.list.now ≡ first ∷ more = search rules in
    let given : cut.given.now ≡ take first.len c.args.self.now.text.now = search rules in
    let others : cut.rest.now ≡ drop first.len c.args.self.now.text.now = search rules in
    let text : c.args.self.now.text.now ≡ cut.given.now ++ cut.rest.now =
    rw (given, others) (sym (take-append-drop first.len c.args.self.now.text.now)) in
    let len : length cut.given.now ≡ first.len = search rules in
    let value : cut.given.now ≡ c.args.value.now = search (rules, is) in
    let next : c.in-Some.next ≡ c.args.self.now.index + 1 = search rules in
    let here : first.index ≡ c.args.self.now.index = search rules in
    let taken = first_value Becomes _ _ rest first more cut.given.now cut.rest.now here len
    (rw (list, text) at left) in
    (subst (Becomes c.args.text.now) value taken.0, rw next taken.1)
