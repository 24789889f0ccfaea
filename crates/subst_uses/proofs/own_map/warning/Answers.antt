-- The output of the source is known, so there is no fault.
use Rattle.std.proofs.Common.{Ok}
use Rattle.subst_uses.specs.Colours.{colours_of}
use Rattle.subst.proofs.Calling.{given, memory_alone}
use Rattle.subst_uses.proofs.WarningLemmas.{warning_gives}
use Rattle.subst_uses.proofs.own_map.warning.Goals as goal

pub of_substituting-requires : goal.of_substituting-requires
of_substituting-requires c =
    let on = c.args.colours.now.on in
    memory_alone _ _ (colours_of on) c.in-Err.e (warning_gives on) c.in-Err.ensures

pub returns-in-Ok : goal.returns-in-Ok
returns-in-Ok c =
    let on = c.args.colours.now.on in
    given (λ output. output.items) _ _ (colours_of on) (Ok c.in-Ok.output) (warning_gives on) c.in-Ok.ensures
