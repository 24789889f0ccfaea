-- A piece stays, or is a placeholder and rewritten.
use Rattle.std.proofs.Common.{rules, ◌≡◌, ◌⊎◌}
use Rattle.subst_document.specs.Splice.{IsPlaceholder}
use Rattle.subst_document.proofs.SpliceLemmas.{appends_kept, appends_placed}
use Rattle.subst_document.proofs.splice.append_piece.Goals as goal

pub returns-in_default : goal.returns-in_default
returns-in_default g c =
    let IsPart = g.S.StringFormat.is_part c.args.whole.now in
    let spells : (c.args.before.now ≡ c.args.text.now) ⊎ IsPart c.args.before.now c.args.text.now = search rules in
    λ _. appends_kept IsPart _ _ _ _ spells c.in_ok-push_str.ensures.bytes

pub returns : goal.returns
returns g c =
    let IsPart = g.S.StringFormat.is_part c.args.whole.now in
    let spells : (c.args.before.now ≡ c.args.text.now) ⊎ IsPart c.args.before.now c.args.text.now = search rules in
    let placeholder : IsPlaceholder c.args.text.now = search rules in
    λ is. let (spelled, written) = c.in_ok-is_written.ensures is in
    appends_placed IsPart _ _ spelled _ _ spells placeholder written
