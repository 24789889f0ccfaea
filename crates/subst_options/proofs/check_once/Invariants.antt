-- The options so far are given as often as they may be.
use Rattle.std.proofs.Common.{take}
use Rattle.std.specs.List.{All}
use Rattle.clap.specs.Words.{found_of, rows_of}
use Rattle.subst_options.specs.CommandLine.{IsOnce, option_of}
use Rattle.subst_options.proofs.check_once.Given as goal

abbrev pub invariant-loop-row : goal.invariant-loop-row
invariant-loop-row l = All (λ row. IsOnce (rows_of (found_of l.matches)) (option_of row))
    (take l.row-index l.rows)
