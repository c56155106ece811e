use Rattle.std.proofs.Common.{[], ◌∷◌, ◌++◌, ap, ◌∙◌, length}
use Rattle.filled.specs.Items.{items_of}
use Rattle.heap.specs.Calls.{with_objects}
use Rattle.cell_heap.specs.CellHeaps.{cell_meaning}
use Rattle.cell_heap.proofs.CellObjects.{cells_free, start_free, at_ok, laid_after_push, index_after_push, objects_after_push}
use Rattle.cell_heap.proofs.strip.CellsLayout.push.Goals as goal

pub lay-requires-clause-room : goal.lay-requires-clause-room
lay-requires-clause-room c = cells_free c.args.self.now (length c.args.row.now) c.requires

pub invariant_of-self : goal.invariant_of-self
invariant_of-self c =
    let h = c.args.self.now in
    let k = c.push.ensures.room.1 (start_free h (length c.args.row.now) c.requires) in
    let s = at_ok c.push.result k c.push.ensures.pushed ∙ ap (λ n. items_of h.starts ++ n ∷ []) c.len-at.ensures.count in
    record {
      laid = laid_after_push h (items_of c.lay.new.cells) c.args.class c.args.row.now c.lay.ensures (items_of c.push.new.self) s;
      indexed = index_after_push h (items_of c.lay.new.cells) c.args.class c.args.row.now c.lay.ensures (items_of c.push.new.self) s;
    }

pub returns : goal.returns
returns c =
    let h = c.args.self.now in
    let s = rw c.unwrap.ensures at c.push.ensures.pushed in
    ap (with_objects (cell_meaning h))
    (objects_after_push h (items_of c.lay.new.cells) c.args.class c.args.row.now c.lay.ensures (items_of c.push.new.self)
    (s ∙ ap (λ n. items_of h.starts ++ n ∷ []) c.len-at.ensures.count))
