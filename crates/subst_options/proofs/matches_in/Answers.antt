-- The command is `subst`, so that `clap` states what it finds.
use Rattle.std.proofs.Common.{ap, refl, ◌∙◌}
use Rattle.clap.specs.Simple.{is_simple}
use Rattle.subst_options.proofs.ParsedLemmas.{are_alone, asked_of, simple}
use Rattle.subst_options.specs.CommandLine.{options}
use Rattle.subst_options.proofs.matches_in.Goals as goal

pub returns-clause-rows : goal.returns-clause-rows
returns-clause-rows c =
    let is = c.in_ok-command.ensures.app in
    (c.in-Ok.ensures.matches (ap is_simple is ∙ simple)).0 ∙ asked_of _ _ is

pub returns-clause-alone : goal.returns-clause-alone
returns-clause-alone c =
    let made = c.in_ok-command.ensures in
    are_alone _ _ c.in-Ok.ensures.parsed made.app made.excludes

pub returns-clause-once : goal.returns-clause-once
unfolding options
returns-clause-once c = c.in_ok-check_once.ensures options refl
