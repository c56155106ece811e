use Rattle.std.proofs.Common.{ap, arith}
use Rattle.filled.specs.Items.{items_of}
use Rattle.heap.specs.Calls.{with_objects}
use Rattle.cell_heap.specs.CellHeaps.{cell_meaning}
use Rattle.cell_heap.specs.CellsLawful.{cells_length}
use Rattle.cell_heap.proofs.CellObjects.{laid_after_put, index_after_put, objects_after_put}
use Rattle.cell_heap.proofs.strip.CellsLayout.put.Goals as goal

pub invariant_of-self : goal.invariant_of-self
invariant_of-self c =
    let h = c.args.self.now in
    let n = cells_length h in
    let w = c.place-at.ensures in
    record {
      laid = laid_after_put h c.args.addr (omega arith) c.args.field c.place-at.result c.args.value w c.requires.field (items_of c.replace.new.self) c.replace.ensures.after;
      indexed = index_after_put h c.args.addr (omega arith) c.args.field c.place-at.result c.args.value w c.requires.field (items_of c.replace.new.self) c.replace.ensures.after;
    }

pub returns : goal.returns
returns c =
    let h = c.args.self.now in
    let n = cells_length h in
    ap (with_objects (cell_meaning h)) (objects_after_put h c.args.addr (omega arith) c.args.field c.place-at.result c.args.value c.place-at.ensures c.requires.field (items_of c.replace.new.self) c.replace.ensures.after)
