-- The answers are identified with their bytes.
use Rattle.std.proofs.Common.{refl, sym}
use Rattle.std.proofs.lemmas.Iterator.Adapters.{option_map_id}
use Rattle.subst_foreign.proofs.laws.questions_are_answered.Goals as goal

pub returns : goal.returns
returns g c = record { shell = ((λ bytes. bytes), (λ v. refl), (λ map name. sym (option_map_id _))) }
