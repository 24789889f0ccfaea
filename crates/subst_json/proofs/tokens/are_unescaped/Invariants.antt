-- so far no byte has to be escaped
use Rattle.std.proofs.Common.{◌≡◌, take}
use Rattle.std.specs.List.{list_all}
use Rattle.subst_json.specs.Filled.{is_plain}
use Rattle.subst_json.proofs.tokens.are_unescaped.Given as goal

abbrev pub invariant-loop-byte : goal.invariant-loop-byte
invariant-loop-byte l = l.are ≡ list_all is_plain (take l.byte-index l.bytes)
