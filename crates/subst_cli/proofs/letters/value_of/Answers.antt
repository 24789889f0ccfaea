-- No entry so far has the name.
use Rattle.std.proofs.Common.{◌≡◌, arith, false, refl, true}
use Rattle.std.specs.Str.{bytes_eq}
use Rattle.subst_cli.proofs.LetterLemmas.{value_after, value_here, value_none}
use Rattle.subst_cli.proofs.letters.value_of.Goals as goal

pub loop-entry-init : goal.loop-entry-init
loop-entry-init c = refl

pub returns-in-Some : goal.returns-in-Some
returns-in-Some c =
    let same : true ≡ bytes_eq c.args.name.now c.as_bytes.result.now = c.if-eq.ensures in
    value_here c.args.entries.now c.args.name.now c.loop-entry.entry-index c.entry-item.result
    c.loop-entry-test.true c.entry-item.is c.loop-entry.invariant _ (rw c.as_bytes.ensures.value at same)
    (rw (c.in-Some.is, c.as_bytes-in-Some.ensures.value) refl)

pub returns-in-None : goal.returns-in-None
returns-in-None c =
    let same : true ≡ bytes_eq c.args.name.now c.as_bytes.result.now = c.if-eq.ensures in
    value_here c.args.entries.now c.args.name.now c.loop-entry.entry-index c.entry-item.result
    c.loop-entry-test.true c.entry-item.is c.loop-entry.invariant _ (rw c.as_bytes.ensures.value at same)
    (rw c.in-None.is refl)

pub loop-entry-preserved : goal.loop-entry-preserved
loop-entry-preserved c =
    let same : false ≡ bytes_eq c.args.name.now c.as_bytes.result.now = c.if-eq.ensures in
    value_after c.args.entries.now c.args.name.now c.loop-entry.entry-index c.entry-item.result
    c.loop-entry-test.true c.entry-item.is c.loop-entry.invariant (rw c.as_bytes.ensures.value at same)

pub returns : goal.returns
returns c = value_none c.args.entries.now c.args.name.now c.loop-entry.entry-index
    (omega (arith, c.loop-entry-test.false)) c.loop-entry.invariant
