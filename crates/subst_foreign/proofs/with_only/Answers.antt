-- The set has the names of the list.
use Rattle.std.proofs.Common.{false, string_bytes}
use Rattle.subst_foreign.proofs.EnvsubstLemmas.{same_names}
use Rattle.subst_foreign.specs.Foreign.{IsListed}
use Rattle.subst_foreign.specs.declared.forms.Forms.TheVariants.{Envsubst}
use Rattle.subst_foreign.specs.declared.forms.Missing.TheVariants.{Fault}
use Rattle.subst_foreign.proofs.with_only.Goals as goal

pub returns : goal.returns
returns c = record {
  template = same_names Envsubst false _ (λ operated. IsListed c.args.names.now) Fault c.args.text.now string_bytes
      c.unrefused.result c.in_ok-only.ensures.listed c.unrefused.ensures;
}
