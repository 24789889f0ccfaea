-- Each text keeps the reading that it had in the earlier language.
use Rattle.std.proofs.Common.{rules, ◌≡◌, ℕ, List, sym, ap, ◌∙◌}
use Rattle.subst_error.specs.Fault.{Fault}
use Rattle.subst_language.specs.Language.BadItem.{HasFault}
use Rattle.subst_language.specs.Earlier.BadItem.{HasFault as HasEarlierFault}
use Rattle.subst_language.specs.Earlier.Extension.{without_expected, ReadsAsBefore, KeepsReading}
use Rattle.subst_language.proofs.Language.ReadingLemmas.{one_reading}
use Rattle.subst_language.proofs.Earlier.ExtendedLemmas.{value-extended, spells_extended, spells_before}
use Rattle.subst_language.proofs.Earlier.FaultLemmas.{fault_before, fault_extended}
use Rattle.subst_language.proofs.Earlier.QuestionMarkLemmas.{HasNoQuestionMark}

-- a text has one fault, so an earlier fault without a question mark is that fault, except for the message
same_fault : (s : List ℕ) → HasNoQuestionMark s → (p : ℕ) (f g : Fault) → HasFault p s f
    → HasEarlierFault p s g → without_expected f ≡ without_expected g
same_fault s none p f g h k =
    let (e, has, same) = fault_extended k none in
    let one = one_reading s in
    ap without_expected (one.fault_unique p f e h has) ∙ sym same

-- a text without a question mark reads as before
reads_as_before : (s : List ℕ) → HasNoQuestionMark s → ReadsAsBefore s
reads_as_before s none = search (rules, spells_before, fault_before, fault_extended, same_fault)

-- each text keeps its earlier reading
pub keeps_reading : (s : List ℕ) → KeepsReading s
keeps_reading s = search (rules, spells_extended, value-extended, reads_as_before)
