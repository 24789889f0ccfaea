-- A property of each refusal holds for all.
use Rattle.std.proofs.lemmas.Option.{IfSome_then}
use Rattle.subst_document.proofs.RefusalLemmas.{holds_of_all}
use Rattle.subst_toml.specs.Filled.{refusal_in, HasFaultInText}
use Rattle.subst_toml.proofs.reports.report.Goals as goal

pub refusals-requires : goal.refusals-requires
refusals-requires g c =
    IfSome_then c.in_ok-all-in-Subst.all c.in_ok-all-in-Subst.ensures
    (λ all are. holds_of_all refusal_in HasFaultInText all.items are.range)
