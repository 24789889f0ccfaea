-- By the walk over the cells of the parts.
use Rattle.std.proofs.Common.{sym}
use Rattle.subst_indexed.proofs.TemplateLemmas.{no_head, not_whole, template_walked}
use Rattle.subst_indexed.proofs.expand.append.Goals as goal

pub returns-in_default : goal.returns-in_default
returns-in_default g c = no_head _ _ _ _ _ _ _ c.in_default.ensures _

pub returns-then-not-is_whole : goal.returns-then-not-is_whole
returns-then-not-is_whole g c = not_whole _ _ _ _ _ _ _ (sym c.if-not-is_whole.ensures) _

pub returns : goal.returns
returns g c =
    template_walked _ _ _ _ _ _ _ _ c.in-Some.ensures (sym c.if-not-is_whole.ensures) _ _ _ _ c.walk.ensures
