-- A string without faults has an output, and any other one has a fault.
use Rattle.std.proofs.Common.{◌≡◌, ◌==◌, ◌∙◌, [], List, ℕ, ap, arith, inl, inr, length, refl, rules, sym, true, vec_len}
use Rattle.std.proofs.lemmas.Bool.{eqb-true}
use Rattle.std.proofs.lemmas.List.{nil_from_length}
use Rattle.std.proofs.lemmas.List.Sorted.{length_permutation}
use Rattle.std.proofs.lemmas.Str.{IsCharBoundary-start}
use Rattle.subst_expander.specs.Faults.{IsFaulty}
use Rattle.subst_expander.specs.Layers.{Entry}
use Rattle.subst_expander.specs.Strings.{AreFaults, FillsFrom, GivesSome}
use Rattle.subst_expander.specs.declared.document.filler.StringFiller.{StringFiller}
use Rattle.subst_expander.specs.declared.fault.Fault.{Fault}
use Rattle.subst_expander.proofs.ExpansionLemmas.{if_none}
use Rattle.subst_expander.proofs.document.filler.StringFillerFill.refusal.Goals as goal

-- a length that is counted as 0 is 0
empty : (count len : ℕ) → (count == 0) ≡ true → count ≡ len → len ≡ 0
empty count len none counted = omega (arith, eqb-true count 0 none)

module _ (filler : StringFiller) (s : List ℕ) (faults : List Fault) (are : AreFaults filler s faults) where
  given : faults ≡ [] → GivesSome filler s
  given none = elim are [
    | inl (_, gives) ↦ gives
    | inr some ↦ (
      s,
      (
        if_none filler.variables _ refl,
        λ entries from. let (list, (more, _), order) = some entries from in absurd (more (nil_from_length list
            (sym (length_permutation list faults order) ∙ ap length none))),
      ),
    )
  ]

  faulty : ¬ (faults ≡ []) → (entries : List Entry) → FillsFrom filler entries
      → IsFaulty filler.placeholders.now entries s
  faulty some entries from = elim are [
    | inl (none, _) ↦ absurd (some none)
    | inr more ↦ let (list, of, order) = more entries from in (list, of)
  ]

pub returns-then-is_empty-clause-answer : goal.returns-then-is_empty-clause-answer
returns-then-is_empty-clause-answer c =
    given c.args.self.now c.args.source.now c.in_ok-faults.field-0.items c.in_ok-faults.ensures
    (nil_from_length _ (empty (vec_len c.in_ok-faults.field-0) _ (sym c.is_empty.ensures ∙ c.if-is_empty.true)
    c.in_ok-faults.field-0.ok.0))

pub returns-else-is_empty : goal.returns-else-is_empty
returns-else-is_empty c = rw c.refused.ensures record {
  answer = faulty c.args.self.now c.args.source.now c.in_ok-faults.field-0.items c.in_ok-faults.ensures
      (search rules);
  refusal_range = (IsCharBoundary-start _ c.utf8.source, IsCharBoundary-start _ c.utf8.source);
}
