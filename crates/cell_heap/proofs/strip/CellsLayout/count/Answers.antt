use Rattle.std.proofs.Common.{sym, ◌∙◌}
use Rattle.cell_heap.specs.CellsLawful.{cells_length}
use Rattle.cell_heap.proofs.strip.CellsLayout.count.Goals as goal

pub returns : goal.returns
returns c = c.len.ensures.count ∙ sym (cells_length c.args.self.now)
