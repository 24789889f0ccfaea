-- Refusals by the look-up, and the look-up by refusals.
use Rattle.std.proofs.Common.{rules, ◌≡◌, ℕ, List, None, IsSome, refl, subst, inl, inr}
use Rattle.std.proofs.lemmas.Bool.{false≢true}
use Rattle.subst_error.specs.Fault.{NoSuchVariable}
use Rattle.subst_language.specs.Language.Answer.{Answers, Refuses}
use Rattle.subst_language.specs.Language.LookUp.{LookUp}
use Rattle.subst_language.proofs.Language.MissingLemmas.{all_given, missing_lacked}
use Rattle.subst_language.proofs.Language.UnsettledLemmas.{fault_is_known}
use Rattle.subst_language.proofs.Language.VariablesLemmas.{missing_first}
use Rattle.subst_language.proofs.laws.missing_variables_are_missing.Goals as goal

-- the look-up has no value for the variable that a source is refused for
refused_missing : (s : List ℕ) (look : LookUp) (position : ℕ) (name : List ℕ)
    → Answers s look (Refuses (NoSuchVariable position name)) → look name ≡ None
refused_missing s look position name (inl fault) = absurd (fault_is_known position name fault refl)
refused_missing s look position name (inr (t, spells, (q, n, missing, same))) =
    search (rules, missing_first, missing_lacked)

pub returns-clause-missing : goal.returns-clause-missing
returns-clause-missing c = refused_missing

pub returns-clause-given : goal.returns-clause-given
returns-clause-given c = all_given

-- so if it has a value, the source isn't refused for that variable, at any position
pub returns-clause-retry : goal.returns-clause-retry
returns-clause-retry c s look position name some refused =
    false≢true (subst IsSome (refused_missing s look position name refused) some)
