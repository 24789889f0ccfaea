-- Each byte is appended after those before it.
use Rattle.std.proofs.Common.{rules}
use Rattle.std.proofs.lemmas.List.{take_all}
use Rattle.subst_c.proofs.CellsLemmas.{one_more_byte}
use Rattle.subst_c.proofs.cells.without_optional.Goals as goal

pub loop-byte-preserved : goal.loop-byte-preserved
loop-byte-preserved c = search (one_more_byte, rules)

pub returns : goal.returns
returns c = search (take_all, rules)
