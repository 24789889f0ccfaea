-- The command has the options so far.
use Rattle.std.proofs.Common.{◌≡◌, ◌++◌, map, take}
use Rattle.clap.specs.Words.{app_of, args_of}
use Rattle.subst_options.specs.CommandLine.{exclusion_of, exclusion_of_row, rule_of_row, with_rules}
use Rattle.subst_options.proofs.with_options.Given as goal

abbrev pub invariant-loop-row : goal.invariant-loop-row
invariant-loop-row l =
    (app_of l.command ≡ with_rules (app_of l.fn.command) (map rule_of_row (take l.row-index l.rows)))
    × (map exclusion_of (args_of l.command)
    ≡ map exclusion_of (args_of l.fn.command) ++ map exclusion_of_row (take l.row-index l.rows))
