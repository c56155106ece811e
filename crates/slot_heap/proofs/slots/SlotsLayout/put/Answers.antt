use Rattle.std.proofs.Common.{map, get_or, sym, refl, ap, ◌∙◌, arith}
use Rattle.std.proofs.lemmas.List.{length-map}
use Rattle.filled.specs.Items.{items_of}
use Rattle.heap.specs.Calls.{with_objects}
use Rattle.slot_heap.specs.Slots.{slot_object, slot_meaning}
use Rattle.slot_heap.proofs.SlotObjects.{slots_put}
use Rattle.slot_heap.proofs.slots.SlotsLayout.put.Goals as goal

pub returns : goal.returns
returns c =
    let h = c.args.self.now in
    let n = length-map (items_of h.slots) slot_object in
    let s = c.index-as_slice-at.result in
    let p = slots_put (items_of h.slots) c.args.addr c.args.field c.args.value s _ (omega arith) (ap (λ ss. get_or ss c.args.addr s) (sym c.as_slice.ensures.items) ∙ sym c.index-as_slice-at.is) refl c.replace.ensures.after in
    ap (with_objects (slot_meaning h)) (ap (map slot_object) c.replace-2.ensures.after ∙ p)
