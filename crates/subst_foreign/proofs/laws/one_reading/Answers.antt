use Rattle.subst_foreign.proofs.OneReading.{never_refused, one_text, read_text, same_reading, text_is_read}
use Rattle.subst_foreign.proofs.laws.one_reading.Goals as goal

-- two readings of a text are one
pub returns-clause-one_list : goal.returns-clause-one_list
returns-clause-one_list g c s = same_reading _ 0 0 0 s

-- a text without refused forms is one of the grammar
pub returns-clause-text_read : goal.returns-clause-text_read
returns-clause-text_read g c = read_text _

-- a text of the grammar is read without refused forms
pub returns-clause-nothing_refused : goal.returns-clause-nothing_refused
returns-clause-nothing_refused g c = text_is_read _

-- a text of the grammar is never refused
pub returns-clause-never_refused : goal.returns-clause-never_refused
returns-clause-never_refused g c = never_refused _

-- two texts of the grammar with one spelling are one
pub returns-clause-one_text : goal.returns-clause-one_text
returns-clause-one_text g c = one_text _
