-- Each token is passed; if it is the next refused string, its path is appended.
use Rattle.std.proofs.Common.{◌≡◌, ◌+◌, [], ◌++◌, length, map, sym, ap, ◌∙◌, subst, append_assoc, append-nil, arith, rules}
use Rattle.std.proofs.lemmas.List.{length-append, length-map, reverse-reverse}
use Rattle.std.proofs.lemmas.Grind.{common_steps}
use Rattle.json.specs.Lex.{tokens}
use Rattle.json.specs.Reads.{token_of}
use Rattle.subst_document.specs.Paths.{step_of}
use Rattle.subst_document.specs.Refused.{ArePathsTo}
use Rattle.subst_json.specs.Filled.{strings_of_token}
use Rattle.subst_json.specs.Listed.{located, located_in, past_token, IsCollected, IsPathTo}
use Rattle.subst_json.proofs.ListedLemmas.{collected_more, path_of}
use Rattle.subst_json.proofs.paths.JsonPathsPaths.paths_to.Goals as goal

pub loop-token-preserved : goal.loop-token-preserved
loop-token-preserved c =
    let l = c.loop-token in
    let (done, all, at, so_far) = l.invariant in
    let source = c.args.self.now.source.now in
    let steps = map step_of l.steps.items in
    let path = path_of l.steps.items in
    let t = token_of c.in-Some.token in
    let ts = c.next.new.self in
    let strings = strings_of_token t in
    let here = map (located steps) strings in
    let collector = c.collect.new.self in
    let counted : collector.index ≡ l.collector.index + length strings = search rules in
    let collected : IsCollected steps strings l.collector.index l.collector.rest.now collector.rest.now
    l.collector.paths.items collector.paths.items = search rules in
    let passed : path_of c.advance.new.steps.items ≡ past_token t path = search rules in
    let left = located_in (path_of c.advance.new.steps.items) ts in
    let all_is : located_in [] (tokens source) ≡ done ++ (here ++ left) =
    all ∙ ap (λ us. done ++ located_in path us) c.in-Some.ensures.value
    ∙ ap (λ p. done ++ (map (located p) strings ++ located_in (past_token t path) ts)) (reverse-reverse steps)
    ∙ ap (λ p. done ++ (here ++ located_in p ts)) (sym passed) in (
      done ++ here,
      all_is ∙ sym (append_assoc done here left),
      counted ∙ ap (λ n. n + length strings) at
          ∙ sym (length-append done here ∙ ap (λ n. length done + n) (length-map strings (located steps))),
      collected_more source done left steps strings l.collector.index c.args.refused.now l.collector.rest.now
          collector.rest.now l.collector.paths.items collector.paths.items all_is at collected so_far,
    )

pub returns-then-is_empty : goal.returns-then-is_empty
returns-then-is_empty c =
    let l = c.loop-token in
    let source = c.args.self.now.source.now in
    let none : l.collector.rest.now ≡ [] = grind (arith, common_steps) in
    subst (ArePathsTo (IsPathTo source) c.args.refused.now) (append-nil l.collector.paths.items)
    (l.invariant.3 [] (subst (λ its. ArePathsTo (IsPathTo source) its []) (sym none) tt))
