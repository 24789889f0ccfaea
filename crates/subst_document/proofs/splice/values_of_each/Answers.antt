-- The output of each part follows those before it.
use Rattle.std.proofs.Common.{rules, ◌≡◌, ◌++◌, [], refl, sym, string_bytes, append-nil}
use Rattle.subst_language.specs.Language.Several.{GivesBy}
use Rattle.subst_document.specs.Splice.{AreParts}
use Rattle.subst_document.proofs.SpliceLemmas.{more_than_parts, part_more}
use Rattle.subst_document.proofs.splice.values_of_each.Goals as goal

pub loop-span-preserved : goal.loop-span-preserved
loop-span-preserved g c =
    let Becomes = GivesBy (g.F.Fill.answers c.args.filler.now) in
    let l = c.loop-span in
    let cut = c.in-Some.cut in
    let is_cut : l.rest.now ≡ cut.before.now ++ (cut.token.now ++ cut.rest.now) = search rules in
    let before = rw c.in-Some-2.is at c.in_ok-before.ensures in
    let token = rw c.in-Some-3.is at c.in_ok-value.ensures in
    let first : AreParts Becomes c.args.change.text.now (cut.token.now ++ cut.rest.now) []
    (string_bytes c.append_output.new.joined) =
    part_more Becomes cut.before.now _ l.rest.now _ [] _ _ _ l.invariant.1 is_cut before.0 before.1 in
    (search rules, part_more Becomes cut.token.now _ _ cut.rest.now [] _ _ _ first refl token.0 token.1)

pub returns-then-ne : goal.returns-then-ne
returns-then-ne g c =
    let Becomes = GivesBy (g.F.Fill.answers c.args.filler.now) in
    let l = c.loop-span in
    let last = rw c.in-Some-4.is at c.in_ok-last.ensures in
    let all : AreParts Becomes c.args.change.text.now [] [] (string_bytes c.append_output-2.new.joined) =
    part_more Becomes l.rest.now _ l.rest.now [] [] _ _ _ l.invariant.1 (sym (append-nil l.rest.now)) last.0
    last.1 in
    let other : ¬ (string_bytes c.append_output-2.new.joined ≡ c.args.change.value.now) = search rules in
    λ _. more_than_parts Becomes _ _ _ all other
