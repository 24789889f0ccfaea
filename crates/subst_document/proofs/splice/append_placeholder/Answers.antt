-- The piece before a placeholder stays, and the placeholder's follows.
use Rattle.std.proofs.Common.{rules, string_bytes}
use Rattle.std.proofs.lemmas.Result.{IfOk-weaker}
use Rattle.subst_document.specs.Splice.{AppendsPieces}
use Rattle.subst_document.proofs.SpliceLemmas.{appends_then}
use Rattle.subst_document.proofs.splice.append_placeholder.Goals as goal

pub returns : goal.returns
returns g c =
    let IsPart = g.S.StringFormat.is_part c.args.whole.now in
    let first : AppendsPieces IsPart c.args.text.before.now c.args.token.before.now (string_bytes c.args.output.now)
    (string_bytes c.append_piece.new.output) = search rules in
    IfOk-weaker c.append_piece-2.result _ _
    (λ written appends is. appends_then IsPart _ _ _ _ _ _ _ first (appends is)) c.append_piece-2.ensures
