use Rattle.std.proofs.Common.{◌≡◌, length, map}
use Rattle.json.specs.Lex.{tokens}
use Rattle.subst_json.specs.Listed.{plain_token}
use Rattle.subst_json.proofs.exact_spans.has_plain_tokens.Given as goal

-- if the remaining tokens agree, all do
abbrev pub invariant-loop-token : goal.invariant-loop-token
invariant-loop-token l = l.reader_of_plain ≡ map plain_token l.reader
    → tokens l.plain ≡ map plain_token (tokens l.source)

abbrev pub decreases-loop-token : goal.decreases-loop-token
decreases-loop-token l = length l.reader
