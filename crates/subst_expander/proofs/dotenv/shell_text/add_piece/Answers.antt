-- Two bytes are read together, or one is.
use Rattle.subst_expander.proofs.DotenvLineLemmas.{pair_added}
use Rattle.subst_expander.proofs.dotenv.shell_text.add_piece.Goals as goal

pub returns-clause-added : goal.returns-clause-added
returns-clause-added c unclosed =
    pair_added c.args.quote c.args.first c.in-Some.second.now c.args.after.now c.in-Some.later.now
    c.in-Some-pair_text.pair.now c.args.text.now.items c.extend_from_slice.new.self.items
    c.in-Some.ensures.cases.0 unclosed c.in-Some-pair_text.ensures c.in_ok-extend_from_slice.ensures.items
