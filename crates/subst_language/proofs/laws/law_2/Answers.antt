use Rattle.subst_language.proofs.Language.MovedLemmas.{joined_fault, joined_gives, joined_missing, missing_before}
use Rattle.subst_language.proofs.Language.TreeLemmas.{spells_join}
use Rattle.subst_language.proofs.laws.law_2.Goals as goal

-- two sentences, concatenated, spell the two trees joined
pub returns-clause-tree : goal.returns-clause-tree
returns-clause-tree c = spells_join

-- the output of two sentences, concatenated, is the outputs of both
pub returns-clause-bytes : goal.returns-clause-bytes
returns-clause-bytes c = joined_gives

-- a fault after a sentence is that of the whole
pub returns-clause-fault : goal.returns-clause-fault
returns-clause-fault c = joined_fault

-- a missing variable of the second sentence is that of the whole, if the value of the first is bytes
pub returns-clause-missing : goal.returns-clause-missing
returns-clause-missing c = joined_missing

-- a missing variable of the first sentence is that of the whole
pub returns-clause-missing_before : goal.returns-clause-missing_before
returns-clause-missing_before c = missing_before
