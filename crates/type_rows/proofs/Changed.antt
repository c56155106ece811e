-- Two rows of numbers mean the same exactly where the numbers that they show are the same. Assumes nothing.
use Rattle.std.proofs.Common.{◌≡◌, ℕ, ◌-◌, ◌<◌, ◌≤◌, Bool, true, false, List, map, reverse, get_or, take, drop, MatchBool, sym, ap, ◌∙◌, ⊎_elim, arith}
use Rattle.std.proofs.lemmas.List.{take-take}
use Rattle.std.proofs.lemmas.Bool.{cases_lt}
use Rattle.jinja.specs.declared.ty.Ty.{Ty}
use Rattle.jinja.specs.Types.{type_number, type_of_number}
use Rattle.jinja.specs.Rows.{Cell, Row, unreached, reached}
use Rattle.type_rows.specs.Merging.{merged, clash}
use Rattle.type_rows.specs.Numbers.{read_row, cell_number, types_in, cells_in, stack_part, register_part}
use Rattle.type_rows.specs.Joining.{SameNumbers}
use Rattle.type_rows.specs.RowSteps.{row_types, row_cells}
use Rattle.type_rows.proofs.Back.{stack_back, registers_back}
use Rattle.type_rows.proofs.Reading.{read_reached, read_clash}

module _ (n : ℕ) (xs ys : List ℕ) (few : n ≤ 16) (above : 0 < get_or xs 0 0) (low : get_or xs 0 0 ≤ 17) (same : get_or ys 0 0 ≡ get_or xs 0 0) where
  abbrev h : ℕ
  h = get_or xs 0 0 - 1

  types_shown : row_types ys ≡ types_in (stack_part ys) h
  types_shown = ap (λ (a : ℕ). types_in (stack_part ys) (a - 1)) same

  same_means : SameNumbers h n xs ys → read_row n ys ≡ read_row n xs
  same_means s =
      let a : take h (stack_part ys) ≡ take h (stack_part xs) = take-take h 16 (drop 1 ys) (omega arith) ∙ sym s.stack ∙ sym (take-take h 16 (drop 1 xs) (omega arith)) in
      let b : take n (register_part ys) ≡ take n (register_part xs) = take-take n 16 (drop 17 ys) few ∙ sym s.registers ∙ sym (take-take n 16 (drop 17 xs) few) in
      read_reached n ys (omega arith) (omega arith)
      ∙ ap (λ (st : List Ty). merged (reached st (row_cells n ys))) (types_shown ∙ ap (λ (l : List ℕ). map type_of_number (reverse l)) a)
      ∙ ap (λ (l : List ℕ). merged (reached (row_types xs) (cells_in l))) b
      ∙ sym (read_reached n xs above low)

  means_same : read_row n ys ≡ read_row n xs → SameNumbers h n xs ys
  means_same e =
      let f : merged (reached (row_types ys) (row_cells n ys)) ≡ merged (reached (row_types xs) (row_cells n xs)) = sym (read_reached n ys (omega arith) (omega arith)) ∙ e ∙ read_reached n xs above low in
      let s : row_types xs ≡ types_in (stack_part ys) h = (let t : row_types xs ≡ row_types ys = cc in t ∙ types_shown) in
      let r : row_cells n xs ≡ row_cells n ys = cc in
      record {
        stack = sym (take-take h 16 (drop 1 xs) (omega arith)) ∙ sym (stack_back (stack_part xs) h) ∙ ap (λ (st : List Ty). map type_number (reverse st)) s ∙ stack_back (stack_part ys) h ∙ take-take h 16 (drop 1 ys) (omega arith);
        registers = sym (take-take n 16 (drop 17 xs) few) ∙ sym (registers_back (take n (register_part xs))) ∙ ap (map cell_number) r ∙ registers_back (take n (register_part ys)) ∙ take-take n 16 (drop 17 ys) few;
      }

  -- word of changed numbers is word of a changed row
  pub changed_told : (r : Bool) → MatchBool r (SameNumbers h n xs ys → ⊥) (SameNumbers h n xs ys) → MatchBool r (read_row n ys ≡ read_row n xs → ⊥) (read_row n ys ≡ read_row n xs)
  changed_told true d = λ e. d (means_same e)
  changed_told false s = same_means s

no_reached : {st : List Ty} {lt : List Cell} → merged (reached st lt) ≡ merged unreached → ⊥
no_reached e = let z : ◌≡◌ {A = ℕ} 0 1 = cc in omega arith

no_clash : {r : Row} → clash ≡ merged r → ⊥
no_clash e = let z : ◌≡◌ {A = ℕ} 0 1 = cc in omega arith

-- numbers behind a first number above 0 do not mean an unreached row
pub still_unreached : (n : ℕ) (xs : List ℕ) → 0 < get_or xs 0 0 → read_row n xs ≡ merged unreached → ⊥
still_unreached n xs p e =
    ⊎_elim
    (λ (l : 17 < get_or xs 0 0). no_clash (sym (read_clash n xs l) ∙ e))
    (λ (l : get_or xs 0 0 ≤ 17). no_reached (sym (read_reached n xs p l) ∙ e))
    (cases_lt 17 (get_or xs 0 0))

-- a clash is not a reached row
pub clash_differs : (n : ℕ) (xs ys : List ℕ) → 17 < get_or ys 0 0 → 0 < get_or xs 0 0 → get_or xs 0 0 ≤ 17 → read_row n ys ≡ read_row n xs → ⊥
clash_differs n xs ys l p q e = no_clash (sym (read_clash n ys l) ∙ e ∙ read_reached n xs p q)
