-- No text of envsubst is refused.
use Rattle.std.proofs.Common.{refl}
use Rattle.subst_foreign.proofs.EnvsubstLemmas.{none_refused}
use Rattle.subst_foreign.proofs.unrefused.Goals as goal

pub text_of-requires : goal.text_of-requires
text_of-requires g c =
    let converted = c.in_ok-convert.ensures in
    converted.is_text (none_refused _ refl converted.read) (rw c.as_bytes.ensures.value c.utf8.text)

pub returns : goal.returns
returns g c =
    let converted = c.in_ok-convert.ensures in
    rw c.text_of.ensures (rw c.as_bytes.ensures.value at converted.template (none_refused _ refl converted.read))
