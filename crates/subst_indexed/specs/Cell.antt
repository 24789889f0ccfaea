-- The parts that the cells of an indexed template keep.
use Rattle.std.specs.Prelude.{◌==◌, Option, Some, None, nat_lt, if◌then◌else◌}
use Rattle.subst_indexed.specs.declared.cell.Cell.{Cell}
use Rattle.subst_indexed.specs.declared.cell.NumberedPart.{NumberedPart}
use Rattle.subst_indexed.specs.declared.cell.NumberedPart.TheVariants.{Literal, Escaped, Variable, Default}
use Rattle.subst_indexed.specs.declared.cell.TheConstants.{LITERAL, ESCAPED, VARIABLE, DEFAULT}

-- the part that a cell keeps, or `None` if its kind is unknown or its byte is no byte
abbrev pub decoded : Cell → Option NumberedPart
decoded cell =
    if cell.kind == LITERAL then Some (Literal cell.first cell.second)
    else if cell.kind == ESCAPED then (if nat_lt cell.first 256 then Some (Escaped cell.first) else None)
    else if cell.kind == VARIABLE then Some (Variable cell.first cell.second cell.number)
    else if cell.kind == DEFAULT then Some (Default cell.first cell.number)
    else None
