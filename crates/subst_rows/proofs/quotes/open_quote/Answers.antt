-- One more quote, and no more of them.
use Rattle.std.proofs.Common.{◌≡◌, ◌<◌, ◌+◌, ◌-◌, Some, length, length-drop, drop, take, get_or, sym, ap, ◌∙◌, arith}
use Rattle.std.proofs.lemmas.List.{get_or-drop, take_all}
use Rattle.std.proofs.lemmas.Option.{slice_get-get_or}
use Rattle.std.specs.Prelude.{slice_get}
use Rattle.subst_rows.specs.Quotes.{place_after}
use Rattle.subst_rows.proofs.QuoteLemmas.{before_quote, closed_on, ends_outside, ends_quoted, none_in, quote_is, quote_step, quoted_on}
use Rattle.subst_rows.proofs.quotes.open_quote.Goals as goal

pub loop-found-preserved : goal.loop-found-preserved
loop-found-preserved c =
    let d = c.args.delimiter in
    let text = c.args.text.now in
    let at = c.loop-found.at in
    let place = c.loop-found.place in
    let found = c.in-Some.found in
    let before = c.place_after-before.result in
    let after = c.place_after_quote-after.result in
    let hay = take (length text - at) (drop at text) in
    let whole : hay ≡ drop at text =
    take_all (length text - at) (drop at text) (omega (arith, length-drop at text))
    in
    let first = c.in-Some.ensures in
    let below : found < length (drop at text) = omega (arith, first.0.high, ap length whole) in
    let quote : get_or text (at + found) 0 ≡ 34 =
    sym (get_or-drop at text found 0) ∙ ap (λ it. get_or it found 0) (sym whole)
    ∙ quote_is (get_or hay found 0) first.1
    in
    let same : before ≡ place_after d place (take found (drop at text)) =
    c.place_after-before.ensures ∙ ap (λ n. place_after d place (take n (drop at text))) (omega arith)
    in
    let there : slice_get text (at + found) ≡ Some 34 =
    slice_get-get_or text (at + found) 0 (omega (arith, below, length-drop at text))
    ∙ ap (λ b. Some b) quote
    in
    let known = before_quote d place before (take found (drop at text))
    (slice_get text c.loop-found.opened ≡ Some 34) same c.loop-found.invariant.quoted c.loop-found.invariant.closed
    in
    record {
      within = omega (arith, below, length-drop at text);
      placed =
          quote_step d text at place c.loop-found.invariant.placed found before after below
          (none_in hay (drop at text) whole found first.0.before) quote same
          c.place_after_quote-after.ensures.place;
      quoted =
          quoted_on text before after (at + found) c.loop-found.opened c.last_opened-opened.result
          c.last_opened-opened.ensures c.place_after_quote-after.ensures.inside known.0 known.1 there;
      closed = λ closes.
          closed_on text before after (at + found) c.loop-found.opened c.last_opened-opened.result
          c.last_opened-opened.ensures (c.place_after_quote-after.ensures.closes closes) known.0;
    }

pub returns-in-Quoted-clause-some : goal.returns-in-Quoted-clause-some
returns-in-Quoted-clause-some c =
    let text = c.args.text.now in
    let at = c.loop-found.at in
    let hay = take (length text - at) (drop at text) in
    let whole : hay ≡ drop at text =
    take_all (length text - at) (drop at text) (omega (arith, length-drop at text))
    in (
      ends_quoted c.args.delimiter text at c.loop-found.place c.loop-found.invariant.placed
          (λ k below. none_in hay (drop at text) whole (length hay) c.in_default.ensures k
          (omega (arith, below, ap length whole))) c.in-Quoted.is,
      c.loop-found.invariant.quoted c.in-Quoted.is,
    )

pub returns-in_default-place-clause-none : goal.returns-in_default-place-clause-none
returns-in_default-place-clause-none c =
    let text = c.args.text.now in
    let at = c.loop-found.at in
    let hay = take (length text - at) (drop at text) in
    let whole : hay ≡ drop at text =
    take_all (length text - at) (drop at text) (omega (arith, length-drop at text))
    in
    ends_outside c.args.delimiter text at c.loop-found.place c.loop-found.invariant.placed
    (λ k below. none_in hay (drop at text) whole (length hay) c.in_default.ensures k
    (omega (arith, below, ap length whole))) c.in_default-place.not-Quoted
