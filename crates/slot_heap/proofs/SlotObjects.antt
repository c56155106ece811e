-- The objects of a slot heap, by its slots.
use Rattle.std.proofs.Common.{◌≡◌, ℕ, ◌<◌, true, ltb, List, [], ◌∷◌, map, length, get_or, set, refl, ap, ◌∙◌, zero-mul, arith}
use Rattle.std.proofs.lemmas.List.{get_or-map, map-set, length-map}
use Rattle.std.proofs.lemmas.List.Sums.{sum_by-cons}
use Rattle.std.proofs.lemmas.Bool.Decides.{nat_tests}
use Rattle.heap.specs.declared.value.Value.{Value}
use Rattle.filled.specs.Items.{items_of}
use Rattle.slot_heap.specs.declared.slots.Slot.{Slot}
use Rattle.slot_heap.specs.Limits.{slot_limit}
use Rattle.heap.specs.Meaning.{Object, cost, used, has_room, admits}
use Rattle.heap.specs.Calls.{no_object, with_field}
use Rattle.slot_heap.specs.Slots.{slot_line, slot_object}

-- each object is charged 1
pub used_slots : (os : List Object) → used slot_line os ≡ length os
used_slots [] = refl
used_slots (o ∷ os) =
    let e = sum_by-cons (λ x. cost slot_line (length x.row)) o os in
    omega (arith, e, used_slots os, zero-mul (length o.row))

-- so there is room for one more where a slot is free
pub slot_room : (ss : List Slot) (n k : ℕ) → k ≡ length ss → ltb k slot_limit ≡ has_room (slot_line ∷ []) (map slot_object ss) n
slot_room ss n k e =
    let u = used_slots (map slot_object ss) in
    let m = length-map ss slot_object in
    let z = zero-mul n in
    grind (arith, nat_tests)

pub slot_free : (ss : List Slot) (n : ℕ) → admits (record { objects = map slot_object ss; lines = slot_line ∷ [] }) n ≡ true → length ss < slot_limit
slot_free ss n e = let r = slot_room ss n (length ss) refl in grind (arith, nat_tests)

-- one slot with another value in a field
pub slots_put : (ss : List Slot) (a i : ℕ) (v : Value) (s t : Slot) → a < length ss → get_or ss a s ≡ s → t.class ≡ s.class → items_of t.row ≡ set (items_of s.row) i v
    → map slot_object (set ss a t) ≡ set (map slot_object ss) a (with_field (get_or (map slot_object ss) a no_object) i v)
slots_put ss a i v s t l e c r =
    let o = get_or-map slot_object ss a s no_object l in
    let p : slot_object t ≡ with_field (get_or (map slot_object ss) a no_object) i v = simp (o, e, c, r) in
    map-set slot_object ss a t ∙ ap (set (map slot_object ss) a) p
