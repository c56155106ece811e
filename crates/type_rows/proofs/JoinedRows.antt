-- A row whose numbers are joined with those of a row of the same height shows the join of both. Assumes nothing.
use Rattle.std.proofs.Common.{◌≡◌, ℕ, ◌-◌, ◌<◌, ◌≤◌, Bool, true, false, cond, List, map, reverse, length, get_or, take, drop, Some, None, Option, sym, ap, ◌∙◌, subst, arith}
use Rattle.std.specs.List.{AllByRecursion}
use Rattle.std.proofs.lemmas.List.{take-take, length-drop, length-reverse}
use Rattle.jinja.specs.declared.ty.Ty.{Ty}
use Rattle.jinja.specs.Options.{◌>>=◌}
use Rattle.jinja.specs.Program.{Program}
use Rattle.jinja.specs.Classes.{maybe, table}
use Rattle.jinja.specs.Lookups.{Owned}
use Rattle.jinja.specs.WellFormed.{TypeExists, WellFormed}
use Rattle.jinja.specs.Types.{type_of_number}
use Rattle.jinja.specs.Rows.{Cell, reached, row, registers, CellExists}
use Rattle.jinja.specs.Join.{join_stack, join_cells}
use Rattle.stack.specs.Stacked.{held}
use Rattle.type_rows.specs.Joining.{join_numbers, has_absent}
use Rattle.type_rows.specs.Merging.{Merge, merged, clash, merge, InUse, row_in_use}
use Rattle.type_rows.specs.Numbers.{Small, Shows, read_row, types_in, cells_in, stack_part, register_part}
use Rattle.type_rows.specs.RowSteps.{row_types, row_cells}
use Rattle.type_rows.specs.MergeLaws.{merge_lattice}
use Rattle.type_rows.proofs.Reading.{read_reached, read_clash}
use Rattle.type_rows.proofs.JoinedParts.{take_as_long, reverse_joined, absent_reverse}
use Rattle.type_rows.proofs.JoinedTypes.{stack_joined, cells_joined}

both_joined : (s : Option (List Ty)) (c : Option (List Cell)) (b : Bool) (a : List Ty) (l : List Cell) → s ≡ cond b None (Some a) → c ≡ Some l → maybe (s >>= λ a. c >>= λ b. Some (reached a b)) clash merged ≡ cond b clash (merged (reached a l))
both_joined s c true a l e f = rw e
both_joined s c false a l e f = rw (e, f)

-- zs is xs with the numbers that a row of height h and n registers shows joined with those of ys
pub record Joins (P : Program) (h n : ℕ) (xs ys zs : List ℕ) : Type 0 where
  pub first : get_or zs 0 0 ≡ get_or xs 0 0
  pub stack : take h (drop 1 zs) ≡ join_numbers P (take h (drop 1 xs)) (take h (drop 1 ys))
  pub registers : take n (drop 17 zs) ≡ join_numbers P (take n (drop 17 xs)) (take n (drop 17 ys))

in_use_parts : {P : Program} {M : Owned} {st : List Ty} {lt : List Cell} → InUse P M (merged (reached st lt)) → AllByRecursion (TypeExists P) st × AllByRecursion (CellExists P) lt
in_use_parts (row_in_use (row s l n) h) = (s, l)

module _ (P : Program) (xs ys zs : List ℕ) (lx : length xs ≡ 33) (ly : length ys ≡ 33) (same : get_or ys 0 0 ≡ get_or xs 0 0) (low : get_or xs 0 0 ≤ 17) (n : ℕ) (narrow : n ≤ 16) (j : Joins P (get_or xs 0 0 - 1) n xs ys zs) where
  abbrev h : ℕ
  h = get_or xs 0 0 - 1

  stack_taken : (l : List ℕ) → take h (stack_part l) ≡ take h (drop 1 l)
  stack_taken l = take-take h 16 (drop 1 l) (omega arith)

  registers_taken : (l : List ℕ) → take n (register_part l) ≡ take n (drop 17 l)
  registers_taken l = take-take n 16 (drop 17 l) narrow

  as_high : length (take h (stack_part xs)) ≡ length (take h (stack_part ys))
  as_high = let a = length-drop 1 xs in let b = length-drop 1 ys in take_as_long h (stack_part xs) (stack_part ys) (take_as_long 16 (drop 1 xs) (drop 1 ys) (omega arith))

  stack_read : held (stack_part zs) h ≡ join_numbers P (held (stack_part xs) h) (held (stack_part ys) h)
  stack_read =
      ap reverse (stack_taken zs ∙ j.stack ∙ sym (ap (λ (l : List ℕ). join_numbers P l (take h (stack_part ys))) (stack_taken xs) ∙ ap (join_numbers P (take h (drop 1 xs))) (stack_taken ys)))
      ∙ reverse_joined P (take h (stack_part xs)) (take h (stack_part ys)) as_high

  first_read : get_or zs 0 0 - 1 ≡ h
  first_read = ap (λ (a : ℕ). a - 1) j.first

  types_read : row_types zs ≡ map type_of_number (join_numbers P (held (stack_part xs) h) (held (stack_part ys) h))
  types_read = ap (types_in (stack_part zs)) first_read ∙ ap (map type_of_number) stack_read

  other_read : row_types ys ≡ types_in (stack_part ys) h
  other_read = ap (λ (a : ℕ). types_in (stack_part ys) (a - 1)) same

  absent_read : has_absent (take h (drop 1 zs)) ≡ has_absent (join_numbers P (held (stack_part xs) h) (held (stack_part ys) h))
  absent_read = ap has_absent (sym (stack_taken zs)) ∙ sym (absent_reverse (take h (stack_part zs))) ∙ ap has_absent stack_read

  registers_read : row_cells n zs ≡ cells_in (join_numbers P (take n (register_part xs)) (take n (register_part ys)))
  registers_read =
      ap cells_in
      (registers_taken zs ∙ j.registers ∙ sym (ap (λ (l : List ℕ). join_numbers P l (take n (register_part ys))) (registers_taken xs) ∙ ap (join_numbers P (take n (drop 17 xs))) (registers_taken ys)))

  joined_reached : WellFormed P → length (table P) ≤ 32 → {M : Owned} → InUse P M (merged (reached (row_types xs) (row_cells n xs))) → InUse P M (merged (reached (row_types ys) (row_cells n ys))) → merge P (merged (reached (row_types xs) (row_cells n xs))) (merged (reached (row_types ys) (row_cells n ys))) ≡ cond (has_absent (take h (drop 1 zs))) clash (merged (reached (row_types zs) (row_cells n zs)))
  joined_reached w few u v =
      let a = in_use_parts u in
      let b = in_use_parts v in
      let us = held (stack_part xs) h in
      let vs = held (stack_part ys) h in
      let cu = take n (register_part xs) in
      let cv = take n (register_part ys) in
      let p = length-reverse (take h (stack_part xs)) ∙ as_high ∙ sym (length-reverse (take h (stack_part ys))) in
      let d : length (drop 17 xs) ≡ length (drop 17 ys) = (let i = length-drop 17 xs in let j = length-drop 17 ys in omega arith) in
      let q = take_as_long n (register_part xs) (register_part ys) (take_as_long 16 (drop 17 xs) (drop 17 ys) d) in
      let s = stack_joined w few us vs p a.0 (subst (AllByRecursion (TypeExists P)) other_read b.0) in
      let c = cells_joined w few cu cv q a.1 b.1 in
      ap (λ (l : List Ty). maybe (join_stack P (row_types xs) l >>= λ a. join_cells P (row_cells n xs) (row_cells n ys) >>= λ b. Some (reached a b)) clash merged) other_read
      ∙ both_joined (join_stack P (map type_of_number us) (map type_of_number vs)) (join_cells P (cells_in cu) (cells_in cv)) (has_absent (join_numbers P us vs)) (map type_of_number (join_numbers P us vs)) (cells_in (join_numbers P cu cv)) s c
      ∙ ap (λ (t : Bool). cond t clash (merged (reached (map type_of_number (join_numbers P us vs)) (cells_in (join_numbers P cu cv))))) (sym absent_read)
      ∙ ap (λ (l : List Ty). cond (has_absent (take h (drop 1 zs))) clash (merged (reached l (cells_in (join_numbers P cu cv))))) (sym types_read)
      ∙ ap (λ (l : List Cell). cond (has_absent (take h (drop 1 zs))) clash (merged (reached (row_types zs) l))) (sym registers_read)

  module _ (w : WellFormed P) (few : length (table P) ≤ 32) (M : Owned) (wide : n ≡ registers M) (above : 0 < get_or xs 0 0) (u : InUse P M (read_row (registers M) xs)) (v : InUse P M (read_row (registers M) ys)) where
    read_same : (l : List ℕ) → read_row n l ≡ read_row (registers M) l
    read_same l = ap (λ (a : ℕ). read_row a l) wide

    rows_joined : merge P (read_row (registers M) xs) (read_row (registers M) ys) ≡ cond (has_absent (take h (drop 1 zs))) clash (merged (reached (row_types zs) (row_cells n zs)))
    rows_joined =
        let rx = sym (read_same xs) ∙ read_reached n xs above low in
        let ry = sym (read_same ys) ∙ read_reached n ys (omega arith) (omega arith) in
        ap (λ (a : Merge). merge P a (read_row (registers M) ys)) rx ∙ ap (merge P (merged (reached (row_types xs) (row_cells n xs)))) ry ∙ joined_reached w few (subst (InUse P M) rx u) (subst (InUse P M) ry v)

    pub clash_means : has_absent (take h (drop 1 zs)) ≡ true → (ws : List ℕ) → 17 < get_or ws 0 0 → read_row (registers M) ws ≡ merge P (read_row (registers M) xs) (read_row (registers M) ys)
    clash_means e ws l = read_clash (registers M) ws l ∙ sym (rows_joined ∙ ap (λ (t : Bool). cond t clash (merged (reached (row_types zs) (row_cells n zs)))) e)

    pub row_means : has_absent (take h (drop 1 zs)) ≡ false → read_row (registers M) zs ≡ merge P (read_row (registers M) xs) (read_row (registers M) ys)
    row_means e =
        let f = j.first in
        sym (read_same zs) ∙ read_reached n zs (omega arith) (omega arith) ∙ sym (rows_joined ∙ ap (λ (t : Bool). cond t clash (merged (reached (row_types zs) (row_cells n zs)))) e)

-- a row that means the join of two rows in use is in use
pub join_shown : {P : Program} → WellFormed P → (M : Owned) {x y : Merge} (zs : List ℕ) → length zs ≡ 33 → Small zs → InUse P M x → InUse P M y → read_row (registers M) zs ≡ merge P x y → Shows P M zs
join_shown {P} w M {x} {y} zs l s u v e = record { whole = l; small = s; in_use = subst (InUse P M) (sym e) ((merge_lattice w).good_join x y u v) }
