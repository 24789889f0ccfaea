-- The map's look-up is that of the pairs.
use Rattle.std.proofs.Common.{refl, rules, string_bytes, subst}
use Rattle.subst_language.proofs.CallingLemmas.{same_look_up}
use Rattle.subst_json.proofs.MappedLemmas.{filled_by_map}
use Rattle.subst_c.specs.Documents.{Json, IsFilledIn}
use Rattle.subst_c.specs.Pairs.{pair_value}
use Rattle.subst_c.proofs.DocumentLemmas.{refused_by_pairs}
use Rattle.subst_c.proofs.document.of_json.fill_in.Goals as goal
use Rattle.subst_c.proofs.document.of_json.fill_in.Goals.{in-Json+in_ok-text_refusal-in-Json, in-Subst+in_ok-first_refusal-in-Subst, in-OutOfMemory}

pub returns-in-Some : goal.returns-in-Some
returns-in-Some c =
    let s = c.args.source.now in
    let output = string_bytes c.in-Some.text in
    let look = pair_value c.args.pairs.now.pairs.pairs.now in
    subst (λ l. IsFilledIn Json l s output) (same_look_up look)
    (filled_by_map _ _ look s output (rw c.in-Some.is at c.in-Ok.ensures.filled.output) (λ v. v) (λ v. refl))

pub returns-after-e : goal.returns-after-e
returns-after-e c = elim c.match-e.branch [
  | in-Json+in_ok-text_refusal-in-Json w ↦ search rules
  | in-Subst+in_ok-first_refusal-in-Subst w ↦
      rw w.result-is
      (refused_by_pairs Json (pair_value c.args.pairs.now.pairs.pairs.now) c.args.source.now
      w.in_ok-first_refusal-in-Subst.field-0 (w.in_ok-first_refusal-in-Subst.ensures (λ v. v) (λ v. refl)))
  | in-OutOfMemory w ↦ search rules
]
