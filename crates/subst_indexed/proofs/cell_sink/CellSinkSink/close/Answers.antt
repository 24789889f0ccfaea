-- The default's cell has the number of the cells after it as its jump.
use Rattle.std.proofs.Common.{◌∷◌, length-append, arith}
use Rattle.subst_language.specs.declared.part.Part.TheVariants.{Default}
use Rattle.subst_indexed.proofs.SinkLemmas.{holds_closed, open_length}
use Rattle.subst_indexed.proofs.cell_sink.CellSinkSink.close.Goals as goal

pub overflow_sub-jump : goal.overflow_sub-jump
overflow_sub-jump c =
    let long = open_length _ _ _ _ _ _ _ c.requires.held in
    omega (arith, long, c.len.ensures, c.args.self.now.cells.ok.0, c.requires.is)

pub overflow_sub-jump-2 : goal.overflow_sub-jump-2
overflow_sub-jump-2 c =
    let long = open_length _ _ _ _ _ _ _ c.requires.held in
    omega (arith, long, c.len.ensures, c.args.self.now.cells.ok.0, c.requires.is)

pub overflow_cast-jump : goal.overflow_cast-jump
overflow_cast-jump c =
    let long = open_length _ _ _ _ _ _ _ c.requires.held in
    let parts = length-append c.requires.before (Default c.args.name 0 ∷ c.requires.own) in
    omega (arith, long, parts, c.requires.fits.2, c.len.ensures, c.args.self.now.cells.ok.0, c.requires.is)

pub index_mut-requires : goal.index_mut-requires
index_mut-requires c =
    let long = open_length _ _ _ _ _ _ _ c.requires.held in
    omega (arith, long, c.len.ensures, c.args.self.now.cells.ok.0, c.requires.is)

pub returns : goal.returns
returns c = λ first before own is closed held.
    let long = open_length _ _ _ _ before own c.args.name held in
    holds_closed _ _ _ _ before own c.args.name held c.args.index _ c.index_mut.result.now is
    (omega (arith, long, c.len.ensures, c.args.self.now.cells.ok.0, is)) c.index_mut.ensures.value
