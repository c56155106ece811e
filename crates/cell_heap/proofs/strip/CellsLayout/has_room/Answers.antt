use Rattle.cell_heap.proofs.CellObjects.{cells_room}
use Rattle.cell_heap.proofs.strip.CellsLayout.has_room.Goals as goal

pub returns : goal.returns
returns c = cells_room c.args.self.now c.args.n c.len.result c.len.ensures.count
