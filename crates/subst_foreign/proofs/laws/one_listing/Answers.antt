use Rattle.subst_foreign.proofs.ListedLemmas.{listed_in_text, refused_in_text, text_named}
use Rattle.subst_foreign.proofs.OneListing.{same_listing, text_is_listed}
use Rattle.subst_foreign.proofs.laws.one_listing.Goals as goal

-- two lists of the variables of a text are one
pub returns-clause-one_list : goal.returns-clause-one_list
returns-clause-one_list g c s = same_listing _ 0 0 s

-- the listed variables are those of the items
pub returns-clause-variables : goal.returns-clause-variables
returns-clause-variables g c text listed is listing = text_is_listed _ text is listed listing

-- the reported names are those of the variables
pub returns-clause-named : goal.returns-clause-named
returns-clause-named g c text = text_named _ _ text _

-- listed variables lie within the text
pub returns-clause-within : goal.returns-clause-within
returns-clause-within g c s listed = listed_in_text _ s listed

-- refused forms begin within the text
pub returns-clause-refused_within : goal.returns-clause-refused_within
returns-clause-refused_within g c s refused = refused_in_text _ s refused
