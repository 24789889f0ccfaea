-- The trees of both texts follow from their tokens.
use Rattle.std.proofs.Common.{string_bytes, rules}
use Rattle.json.specs.Lex.{tokens}
use Rattle.subst_language.specs.Language.Several.{GivesBy}
use Rattle.subst_json.specs.Filled.{AreFilled}
use Rattle.subst_json.proofs.FilledLemmas.{filled_document}
use Rattle.subst_json.proofs.document.confirmed.Goals as goal

pub returns-then-branch-clause-each : goal.returns-then-branch-clause-each
returns-then-branch-clause-each g c =
    let Becomes = GivesBy (g.F.Fill.answers c.args.filler.now) in
    let filled : AreFilled Becomes (tokens c.args.source.now) (tokens (string_bytes c.args.filled.text)) =
    search rules in
    filled_document Becomes c.args.source.now (string_bytes c.args.filled.text) (search rules) filled
