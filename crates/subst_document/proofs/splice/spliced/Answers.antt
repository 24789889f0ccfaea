-- Each placeholder is rewritten after the pieces before it.
use Rattle.std.proofs.Common.{rules, ◌≡◌, ◌++◌, sym, ◌∙◌, string_bytes, append_assoc}
use Rattle.subst_document.specs.Splice.{AppendsPieces}
use Rattle.subst_document.proofs.SpliceLemmas.{appends_more, spliced_to_end}
use Rattle.subst_document.proofs.splice.spliced.Goals as goal

pub loop-index-preserved : goal.loop-index-preserved
loop-index-preserved g c =
    let IsPart = g.S.StringFormat.is_part c.args.change.token.now in
    let l = c.loop-index in
    let text = c.in-Some-Some-Some.text in
    let token = c.in-Some-Some-Some.token in
    let text_cut : l.rest.text.now ≡ text.before.now ++ (text.token.now ++ text.rest.now) = search rules in
    let token_cut : l.rest.token.now ≡ token.before.now ++ (token.token.now ++ token.rest.now) = search rules in
    let appends : AppendsPieces IsPart (text.before.now ++ text.token.now) (token.before.now ++ token.token.now)
    (string_bytes l.output) (string_bytes c.append_placeholder.new.output) = search rules in
    appends_more IsPart _ _ _ _ _ _ _ _ _ _ _ l.invariant
    (text_cut ∙ sym (append_assoc text.before.now text.token.now text.rest.now))
    (token_cut ∙ sym (append_assoc token.before.now token.token.now token.rest.now)) appends

pub returns : goal.returns
returns g c =
    let IsPart = g.S.StringFormat.is_part c.args.change.token.now in
    let l = c.loop-index in
    let cut = c.in-Some-cut_round in
    let last : AppendsPieces IsPart l.rest.text.now l.rest.token.now (string_bytes l.output)
    (string_bytes c.append_piece.new.output) = search rules in
    spliced_to_end IsPart _ _ _ _ _ _ _ _ _ _ l.invariant last cut.ensures.0 (search rules)
