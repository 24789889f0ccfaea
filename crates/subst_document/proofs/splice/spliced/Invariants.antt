-- The pieces so far are in the output.
use Rattle.std.proofs.Common.{string_bytes}
use Rattle.subst_document.specs.Splice.{AppendsUpTo}
use Rattle.subst_document.proofs.splice.spliced.Given as goal

abbrev pub invariant-loop-index : goal.invariant-loop-index
invariant-loop-index g l =
    AppendsUpTo (g.S.StringFormat.is_part l.change.token.now) l.change.text.now l.rest.text.now l.cut.token.now
    l.rest.token.now l.cut.before.now (string_bytes l.output)
