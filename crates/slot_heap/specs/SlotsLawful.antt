-- Every slot heap is lawful.
use Rattle.std.specs.Prelude.{◌≡◌, ◌≤◌, List, [], ◌∷◌, map, length}
use Rattle.std.proofs.Common.{◌∙◌, arith}
use Rattle.std.specs.List.{AllByRecursion}
use Rattle.std.proofs.lemmas.List.{length-map, length-take-le}
use Rattle.filled.specs.Items.{items_of}
use Rattle.slot_heap.specs.declared.slots.Slot.{Slot}
use Rattle.slot_heap.specs.declared.slots.Slots.{Slots}
use Rattle.heap.specs.Meaning.{row_limit}
use Rattle.heap.specs.Lawful.{Lawful, here}
use Rattle.slot_heap.specs.Slots.{slot_object, slot_meaning}

pub slots_length : (h : Slots) → length (slot_meaning h).objects ≡ h.slots.len
slots_length h =
    length-map (items_of h.slots) slot_object ∙ length-take-le h.slots.len h.slots.cells (omega arith)

pub slots_short : (ss : List Slot) → AllByRecursion (λ o. length o.row ≤ row_limit) (map slot_object ss)
slots_short [] = tt
slots_short (s ∷ ss) = (omega (arith, length-take-le s.row.len s.row.cells (omega arith)), slots_short ss)

pub slots_lawful : (h : Slots) → Lawful (slot_meaning h)
slots_lawful h =
    let e = slots_length h in
    record {
      few = omega arith;
      short = slots_short (items_of h.slots);
      lines = record { small = (record { fixed = omega arith; per_field = omega arith; total = omega arith }, tt); charged = here (omega arith) };
    }
