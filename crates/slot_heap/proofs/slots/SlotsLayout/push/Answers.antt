use Rattle.std.proofs.Common.{length}
use Rattle.filled.specs.Items.{items_of}
use Rattle.slot_heap.proofs.SlotObjects.{slot_free}
use Rattle.slot_heap.proofs.slots.SlotsLayout.push.Goals as goal

pub unwrap-requires : goal.unwrap-requires
unwrap-requires c =
    c.push.ensures.room.1 (slot_free (items_of c.args.self.now.slots) (length c.args.row.now) c.requires)
