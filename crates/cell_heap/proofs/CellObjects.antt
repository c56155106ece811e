-- The objects of a cell heap, by its cells.
use Rattle.std.specs.Result.{IsOk, OnOk}
use Rattle.std.proofs.Common.{Result, Ok, Err, subst, ◌≡◌, ℕ, ◌+◌, ◌<◌, ◌≤◌, List, [], ◌∷◌, ◌++◌, length, get_or, set, sym, refl, ap, ◌∙◌, add-one, one-mul, true, leb, arith, below_more}
use Rattle.std.proofs.lemmas.Bool.Decides.{nat_tests}
use Rattle.std.proofs.lemmas.List.{get_or-set_same, get_or-set_other, get_or_append_left, get_or_push, length_push, length-set}
use Rattle.filled.specs.Items.{items_of}
use Rattle.heap.specs.declared.value.Value.{Value}
use Rattle.heap.specs.declared.value.Value.TheVariants.{Unit as unit}
use Rattle.cell_heap.specs.declared.cell.Cell.{Cell}
use Rattle.cell_heap.specs.declared.cell.Cell.TheVariants.{Field}
use Rattle.cell_heap.specs.declared.cells.Cells.{Cells}
use Rattle.cell_heap.specs.Limits.{cell_limit}
use Rattle.heap.specs.Meaning.{used, has_room, admits}
use Rattle.heap.specs.Calls.{object_at, with_field}
use Rattle.cell_heap.specs.Strip.{start, object_from, objects_of}
use Rattle.cell_heap.specs.StripLaws.{row_length, object_there}
use Rattle.cell_heap.specs.Cells.{cell, cell_at, class_of, len_of, value_of}
use Rattle.cell_heap.specs.CellHeaps.{cell_line, cell_meaning, HeadAt, FieldAt, LaidBehind}
use Rattle.cell_heap.specs.CellsLawful.{cells_few}
use Rattle.cell_heap.proofs.Strips.{field_there, start_next, used_strip, starts_before, strip_push, starts_kept, strip_put}

-- an answer that is Ok, and what it promises then
pub at_ok : {T E P : Type 0} (r : Result T E) → IsOk r → OnOk r P → P
at_ok (Ok x) k p = p
at_ok (Err e) k p = absurd (cc)

module _ (h : Cells) where
  abbrev strip : ℕ → Cell
  strip = cell_at (items_of h.cells)

  abbrev top : ℕ
  top = length (items_of h.cells)

  abbrev count : ℕ
  count = length (items_of h.starts)

  pub used_cells : used cell_line (cell_meaning h).objects ≡ top
  used_cells = used_strip cell strip cell_line refl refl count ∙ h.laid

  -- so there is room for one more where its cells are free
  pub cells_room : (n k : ℕ) → k ≡ top → leb (k + (1 + n)) cell_limit ≡ has_room (cell_line ∷ []) (cell_meaning h).objects n
  cells_room n k e = let u = used_cells in let o = one-mul n in grind (arith, nat_tests)

  pub cells_free : (n : ℕ) → admits (cell_meaning h) n ≡ true → top + (1 + n) ≤ cell_limit
  cells_free n e = let r = cells_room n top refl in grind (arith, nat_tests)

  pub start_free : (n : ℕ) → admits (cell_meaning h) n ≡ true → count < cell_limit
  start_free n e = let f = cells_few h in let l = cells_free n e in omega arith

  module _ (a : ℕ) (l : a < count) where
    object_of_cells : object_at (cell_meaning h) a ≡ object_from cell strip (start cell strip a)
    object_of_cells = object_there cell strip count a l

    -- the object's cells are all in use
    within_top : start cell strip a + (1 + len_of (strip (start cell strip a))) ≤ top
    within_top = let n = start_next cell strip a count l in let t = h.laid in omega arith

    row_of_cells : length (object_at (cell_meaning h) a).row ≡ len_of (strip (start cell strip a))
    row_of_cells = ap (λ o. length o.row) object_of_cells ∙ row_length cell strip (start cell strip a)

    -- the index has the place of each head
    pub head_found : (p : ℕ) → p ≡ get_or (items_of h.starts) a 0 → HeadAt h a p
    head_found p e =
        let b : p ≡ start cell strip a = e ∙ h.indexed a l in
        let w = within_top in
        record {
          begins = b;
          inside = omega arith;
          class = ap (λ q. class_of (strip q)) b ∙ sym (ap (λ o. o.class) object_of_cells);
          len = ap (λ q. len_of (strip q)) b ∙ sym row_of_cells;
        }

    pub field_found : (i p : ℕ) → p ≡ start cell strip a + (1 + i) → i < length (object_at (cell_meaning h) a).row → FieldAt h a i p
    field_found i p e k =
        let s = start cell strip a in
        let w = within_top in
        let r = row_of_cells in
        record {
          place = e;
          inside = omega arith;
          value = ap (λ q. value_of (strip q)) e ∙ sym (ap (λ o. get_or o.row i unit) object_of_cells ∙ field_there cell strip s i (omega arith));
        }

    -- the cells cs, with another value in a field
    module _ (i p : ℕ) (v : Value) (w : FieldAt h a i p) (k : i < length (object_at (cell_meaning h) a).row) (cs : List Cell) (e : cs ≡ set (items_of h.cells) p (Field v)) where
      kept : (j : ℕ) → (j ≡ start cell strip a + (1 + i) → ⊥) → cell_at cs j ≡ strip j
      kept j n =
          let q = w.place in
          ap (λ xs. cell_at xs j) e ∙ get_or-set_other (items_of h.cells) p j (Field v) (Field unit) (λ q. n (omega arith))

      written : value_of (cell_at cs (start cell strip a + (1 + i))) ≡ v
      written =
          ap (λ xs. value_of (cell_at xs (start cell strip a + (1 + i)))) e
          ∙ ap (λ q. value_of (cell_at (set (items_of h.cells) p (Field v)) q)) (sym w.place)
          ∙ ap value_of (get_or-set_same (items_of h.cells) p (Field v) (Field unit) w.inside)

      starts_after_put : (b : ℕ) → start cell (cell_at cs) b ≡ start cell strip b
      starts_after_put =
          let r = row_of_cells in
          starts_kept cell strip (cell_at cs) count a i v l (omega arith) kept written

      pub laid_after_put : start cell (cell_at cs) count ≡ length cs
      laid_after_put = let n = length-set (items_of h.cells) p (Field v) in starts_after_put count ∙ h.laid ∙ sym (ap length e ∙ n)

      pub index_after_put : (b : ℕ) → b < count → get_or (items_of h.starts) b 0 ≡ start cell (cell_at cs) b
      index_after_put b m = h.indexed b m ∙ sym (starts_after_put b)

      pub objects_after_put : objects_of cell (cell_at cs) count ≡ set (cell_meaning h).objects a (with_field (object_at (cell_meaning h) a) i v)
      objects_after_put =
          let r = row_of_cells in
          sym (strip_put cell strip (cell_at cs) count a i v l (omega arith) kept written)
          ∙ ap (λ o. set (cell_meaning h).objects a (with_field o i v)) (sym object_of_cells)

  -- the cells cs and the index ss, with one object more
  module _ (cs : List Cell) (c : ℕ) (vs : List Value) (w : LaidBehind (items_of h.cells) cs c vs) (ss : List ℕ) (x : ss ≡ items_of h.starts ++ top ∷ []) where
    same_below : (j : ℕ) → j < start cell strip count → cell_at cs j ≡ strip j
    same_below j m = let t = h.laid in w.before j (omega arith)

    starts_below : (a : ℕ) → a ≤ count → start cell (cell_at cs) a ≡ start cell strip a
    starts_below = starts_before cell strip (cell_at cs) count same_below

    one_more : length ss ≡ count + 1
    one_more = ap length x ∙ length_push (items_of h.starts) top

    pub laid_after_push : start cell (cell_at cs) (length ss) ≡ length cs
    laid_after_push =
        let s = ap (start cell (cell_at cs)) (one_more ∙ add-one count) in
        let p = starts_below count (omega arith) ∙ h.laid in
        let q = ap (λ y. len_of (cell_at cs y)) p ∙ w.len in
        let t = w.top in
        omega arith

    pub index_after_push : (a : ℕ) → a < length ss → get_or ss a 0 ≡ start cell (cell_at cs) a
    index_after_push a m =
        ap (λ xs. get_or xs a 0) x
        ∙ below_more (λ b. get_or (items_of h.starts ++ top ∷ []) b 0 ≡ start cell (cell_at cs) b) _
        (λ b n. get_or_append_left (items_of h.starts) (top ∷ []) 0 b n ∙ h.indexed b n ∙ sym (starts_below b (omega arith)))
        (get_or_push (items_of h.starts) _ 0 _ refl ∙ sym h.laid ∙ sym (starts_below count (omega arith)))
        a (subst (λ n. a < n) one_more m)

    pub objects_after_push : objects_of cell (cell_at cs) (length ss) ≡ (cell_meaning h).objects ++ (record { class = c; row = vs }) ∷ []
    objects_after_push =
        let t = h.laid in
        ap (objects_of cell (cell_at cs)) one_more
        ∙ strip_push cell strip (cell_at cs) count same_below c vs
        (ap (λ y. class_of (cell_at cs y)) t ∙ w.class)
        (ap (λ y. len_of (cell_at cs y)) t ∙ w.len)
        (λ i m. ap (λ y. value_of (cell_at cs (y + (1 + i)))) t ∙ w.fields i m)
