use Rattle.std.proofs.Common.{refl}
use Rattle.subst_expand.proofs.WriterLemmas.{started}
use Rattle.subst_expand.proofs.writer.Writer.new.Goals as goal

pub returns : goal.returns
returns g c = record { source = refl; map = refl; count = refl; written = started _ _ _ }
