-- A row whose hidden numbers are absent is the row as it is handed out. Assumes nothing.
use Rattle.std.proofs.Common.{◌≡◌, ℕ, suc, ◌-◌, ◌<◌, ◌≤◌, ◌⊎◌, List, [], ◌∷◌, ◌++◌, map, reverse, length, get_or, take, drop, replicate, sym, ap, ◌∙◌, inl, inr, arith}
use borrow.Rule.Slice.PartMut.{put_mid}
use Rattle.std.proofs.lemmas.List.{length-drop, length-take-le}
use Rattle.jinja.specs.Types.{type_number}
use Rattle.jinja.specs.Rows.{unreached}
use Rattle.type_rows.specs.Merging.{Merge}
use Rattle.type_rows.specs.Numbers.{absent, cell_number, padded, read_row, row_numbers, stack_part, register_part}
use Rattle.type_rows.specs.RowSteps.{row_types, row_cells}
use Rattle.type_rows.specs.Typings.{row_of}
use Rattle.type_rows.proofs.Back.{stack_back, registers_back}
use Rattle.type_rows.proofs.JoinedAnyway.{row_height_read}
use Rattle.type_rows.proofs.Reading.{read_unreached, read_reached, read_clash}
use Rattle.type_rows.proofs.RowParts.{row_of_parts}

-- the first k of 16 numbers, and absent behind them
padded_front : (xs : List ℕ) (k : ℕ) → length xs ≡ 16 → k ≤ 16 → padded 16 (take k xs) ≡ take k xs ++ replicate (length xs - k) absent
padded_front xs k n l =
    let a = length-take-le k xs (omega arith) in
    let z : 16 - length (take k xs) ≡ length xs - k = omega arith in
    ap (λ (m : ℕ). take k xs ++ replicate m absent) z

parts_put : (xs ys zs : List ℕ) → length xs ≡ 33 → length ys ≡ 16 → length zs ≡ 16 → put_mid 17 16 (put_mid 1 16 xs ys) zs ≡ get_or xs 0 0 ∷ (ys ++ zs)
parts_put [] ys zs n p q = absurd (omega arith)
parts_put (x ∷ xs) ys zs n p q = row_of_parts (x ∷ xs) x ys zs n p q

module _ (n : ℕ) (xs : List ℕ) (whole : length xs ≡ 33) where
  pub none_handed : (get_or xs 0 0 ≡ 0) ⊎ (17 < get_or xs 0 0) → row_numbers unreached ≡ row_numbers (row_of (read_row n xs))
  none_handed (inl e) = ap (λ (m : Merge). row_numbers (row_of m)) (sym (read_unreached n xs e))
  none_handed (inr e) = ap (λ (m : Merge). row_numbers (row_of m)) (sym (read_clash n xs e))

  module _ (few : n ≤ 16) (above : 0 < get_or xs 0 0) (low : get_or xs 0 0 ≤ 17) where
    shown_numbers : row_numbers (row_of (read_row n xs)) ≡ get_or xs 0 0 ∷ (padded 16 (take (get_or xs 0 0 - 1) (stack_part xs)) ++ padded 16 (take n (register_part xs)))
    shown_numbers =
        let h = get_or xs 0 0 - 1 in
        let l = row_height_read xs whole low in
        let z : suc (length (row_types xs)) ≡ get_or xs 0 0 = omega arith in
        ap (λ (m : Merge). row_numbers (row_of m)) (read_reached n xs above low)
        ∙ ap (λ (a : ℕ). a ∷ (padded 16 (map type_number (reverse (row_types xs))) ++ padded 16 (map cell_number (row_cells n xs)))) z
        ∙ ap (λ (a : List ℕ). get_or xs 0 0 ∷ (padded 16 a ++ padded 16 (map cell_number (row_cells n xs)))) (stack_back (stack_part xs) h)
        ∙ ap (λ (a : List ℕ). get_or xs 0 0 ∷ (padded 16 (take h (stack_part xs)) ++ padded 16 a)) (registers_back (take n (register_part xs)))

    pub row_handed : (ys zs : List ℕ) → length ys ≡ 16 → length zs ≡ 16 → ys ≡ take (get_or xs 0 0 - 1) (stack_part xs) ++ replicate (length (stack_part xs) - (get_or xs 0 0 - 1)) absent → zs ≡ take n (register_part xs) ++ replicate (length (register_part xs) - n) absent → put_mid 17 16 (put_mid 1 16 xs ys) zs ≡ row_numbers (row_of (read_row n xs))
    row_handed ys zs p q e f =
        let a = length-drop 1 xs in
        let b = length-drop 17 xs in
        let s = length-take-le 16 (drop 1 xs) (omega arith) in
        let r = length-take-le 16 (drop 17 xs) (omega arith) in
        parts_put xs ys zs whole p q
        ∙ ap (λ (l : List ℕ). get_or xs 0 0 ∷ (l ++ zs)) (e ∙ sym (padded_front (stack_part xs) (get_or xs 0 0 - 1) s (omega arith)))
        ∙ ap (λ (l : List ℕ). get_or xs 0 0 ∷ (padded 16 (take (get_or xs 0 0 - 1) (stack_part xs)) ++ l)) (f ∙ sym (padded_front (register_part xs) n r few))
        ∙ sym shown_numbers
