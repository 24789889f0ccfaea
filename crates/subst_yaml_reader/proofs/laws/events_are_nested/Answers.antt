-- By the turns of the reading.
use Rattle.subst_yaml_reader.proofs.ReadNests.{nested}
use Rattle.subst_yaml_reader.proofs.laws.events_are_nested.Goals as goal

pub returns : goal.returns
returns c = record { nested = nested }
