-- A string becomes the output's string.
use Rattle.std.proofs.Common.{refl}
use Rattle.subst_json.specs.Filled.{strings_in}
use Rattle.subst_json.proofs.compared.RemainingStrings.check_token.Goals as goal

pub returns-in-String-String : goal.returns-in-String-String
returns-in-String-String g c = λ is rest left.
    let it = c.in-String-String in
    let taken = c.check_string.ensures is (strings_in rest) (rw it.is-0 at left) in
    rw (it.is-0, it.is-1) ((it.value.now, refl, taken.0), taken.1)
