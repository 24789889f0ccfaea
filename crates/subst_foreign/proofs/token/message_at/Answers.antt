use Rattle.std.proofs.Common.{◌≡◌, ◌+◌, ◌++◌, ◌∷◌, ◌∙◌, ◌≤◌, get_or, suc, length, take, drop, sym, ap, refl, arith}
use Rattle.std.proofs.lemmas.List.{drop_all, take_all, take_rest}
use Rattle.subst_foreign.proofs.TokenLemmas.{around_byte, byte_next, message_byte, message_closing, message_endless, message_more, message_opens, message_turn, message_whole}
use Rattle.subst_foreign.proofs.token.message_at.Goals as goal
use Rattle.subst_foreign.proofs.token.message_at.Goals.{in-125-2, in-123-2, in-Shell, in_default-matches, in_default}
use Rattle.subst_language.specs.Language.Bytes.{opening_brace, closing_brace}

pub returns-in-125-clause-ok : goal.returns-in-125-clause-ok
returns-in-125-clause-ok c =
    let text = c.args.text.now in
    let at = c.loop-at.at in (
      message_whole c.args.forms (rw c.if-open-eq0.true at c.loop-at.invariant),
      around_byte text at closing_brace c.loop-at-test.true c.in-125.is
          ∙ ap (λ x. take at text ++ closing_brace ∷ x) (sym (take_rest text (at + 1))),
    )

pub returns-in-123-clause-err : goal.returns-in-123-clause-err
returns-in-123-clause-err c =
    let text = c.args.text.now in
    let at = c.loop-at.at in
    message_opens c.args.forms (drop (at + 1) text)
    (elim c.match-matches.branch [
      | in-Shell w ↦ absurd cc
      | in_default-matches w ↦ w.in_default-matches.not-Shell
    ])
    (around_byte text at opening_brace c.loop-at-test.true c.in-123.is)
    (byte_next text at opening_brace c.loop-at-test.true c.in-123.is c.loop-at.invariant)

pub loop-at-preserved : goal.loop-at-preserved
loop-at-preserved c =
    let text = c.args.text.now in
    let at = c.loop-at.at in
    let below = c.loop-at-test.true in
    let so_far = c.loop-at.invariant in
    elim c.match-byte.branch [
      | in-125-2 w ↦
          let one : c.loop-at.open ≡ suc (c.match-byte.open) = omega (arith, w.open-is, w.if-open-eq0.false) in
          message_turn text at closing_brace below w.in-125.is message_closing (rw one at so_far)
      | in-123-2 w ↦ elim w.match-matches.branch [
        | in-Shell w' ↦ message_more text at w.open-is below w.in-123.is w'.in-Shell.is so_far
        | in_default-matches w' ↦ absurd cc
      ]
      | in_default w ↦
          rw w.open-is (message_turn text at (get_or text at 0) below refl
          (message_byte (get_or text at 0) ((λ is. omega arith), (λ is. omega arith))) so_far)
    ]

pub returns-clause-err : goal.returns-clause-err
returns-clause-err c =
    let text = c.args.text.now in
    let at = c.loop-at.at in
    let past : length text ≤ at = omega arith in
    message_endless c.args.forms (take_all at text past) (rw (drop_all at text past) at c.loop-at.invariant)
