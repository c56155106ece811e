use Rattle.std.proofs.Common.{◌+◌, ap, arith}
use Rattle.filled.specs.Items.{items_of}
use Rattle.cell_heap.specs.Cells.{cell_at, short_len}
use Rattle.cell_heap.specs.CellsLawful.{cells_length, cells_within}
use Rattle.cell_heap.proofs.CellObjects.{field_found}
use Rattle.cell_heap.proofs.cells.Cells.place.Goals as goal

pub overflow_add-result-2 : goal.overflow_add-result-2
overflow_add-result-2 c =
    let w = cells_within c.args.self.now in
    let s = short_len (cell_at (items_of c.args.self.now.cells) c.head.result) in
    omega arith

pub returns : goal.returns
returns c =
    let n = cells_length c.args.self.now in
    field_found c.args.self.now c.args.addr (omega arith) c.args.field _ (ap (λ p. p + (1 + c.args.field)) c.head.ensures.begins) c.requires.field
