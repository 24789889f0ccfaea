use Rattle.std.proofs.Common.{◌≡◌, ◌++◌, drop, string_bytes}
use Rattle.subst_document.specs.Plain.{with_plain}
use Rattle.subst_document.proofs.plain.with_plain.Given as goal

-- the output so far, with the rest replaced after it, is the whole output
abbrev pub invariant-loop-index : goal.invariant-loop-index
invariant-loop-index g l = with_plain (g.P.Plain.bytes l.plain) l.source 0 0 l.list
    ≡ string_bytes l.output
    ++ with_plain (g.P.Plain.bytes l.plain) l.source l.done l.index (drop l.index l.list)
