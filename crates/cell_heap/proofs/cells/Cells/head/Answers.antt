use Rattle.std.proofs.Common.{length, get_or, ap, arith}
use Rattle.cell_heap.specs.CellsLawful.{cells_length}
use Rattle.cell_heap.proofs.CellObjects.{head_found}
use Rattle.cell_heap.proofs.cells.Cells.head.Goals as goal

pub bounds-as_slice-addr : goal.bounds-as_slice-addr
bounds-as_slice-addr c =
    let n = cells_length c.args.self.now in
    let s = ap length c.as_slice.ensures.items in
    omega arith

pub returns : goal.returns
returns c =
    let n = cells_length c.args.self.now in
    head_found c.args.self.now c.args.addr (omega arith) _ (ap (λ xs. get_or xs c.args.addr 0) c.as_slice.ensures.items)
