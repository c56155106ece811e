use Rattle.slot_heap.proofs.SlotObjects.{slot_room}
use Rattle.filled.specs.Items.{items_of}
use Rattle.slot_heap.proofs.slots.SlotsLayout.has_room.Goals as goal

pub returns : goal.returns
returns c = slot_room (items_of c.args.self.now.slots) c.args.arg2 c.len.result c.len.ensures.count
