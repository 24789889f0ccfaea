use Rattle.std.proofs.Common.{◌≡◌, length}
use Rattle.subst_json.specs.Filled.{strings_in}
use Rattle.subst_json.proofs.tokens.JsonTokensStrings.next.Given as goal

-- the tokens so far aren't strings
abbrev pub invariant-loop-token : goal.invariant-loop-token
invariant-loop-token l = strings_in l.initial.self.reader ≡ strings_in l.self.reader

abbrev pub decreases-loop-token : goal.decreases-loop-token
decreases-loop-token l = length l.self.reader
