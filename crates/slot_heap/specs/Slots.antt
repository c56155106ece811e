-- What the slot heap's layout means.
use Rattle.std.specs.Prelude.{[], ◌∷◌, map}
use Rattle.filled.specs.Items.{items_of}
use Rattle.heap.specs.declared.charge.ChargeLine.{ChargeLine}
use Rattle.slot_heap.specs.declared.slots.Slot.{Slot}
use Rattle.slot_heap.specs.declared.slots.Slots.{Slots}
use Rattle.slot_heap.specs.Limits.{slot_limit}
use Rattle.heap.specs.Meaning.{Object, Meaning}

abbrev pub slot_line : ChargeLine
slot_line = record { fixed = 1; per_field = 0; total = slot_limit }

abbrev pub slot_object : Slot → Object
slot_object s = record { class = s.class; row = items_of s.row }

abbrev pub slot_meaning : Slots → Meaning
slot_meaning h = record { objects = map slot_object (items_of h.slots); lines = slot_line ∷ [] }
