-- A row that was put together from its parts, and what it shows. Assumes nothing.
use Rattle.std.proofs.Common.{◌≡◌, ℕ, ◌+◌, ◌-◌, List, ◌∷◌, ◌++◌, length, get_or, take, ap, ◌∙◌, arith}
use Rattle.std.proofs.lemmas.List.{take_at, take_all, drop_at}
use Rattle.type_rows.specs.Numbers.{types_in, cells_in, stack_part, register_part}
use Rattle.type_rows.specs.RowSteps.{row_types, row_cells}

module _ (a : ℕ) (cells registers : List ℕ) (p : length cells ≡ 16) (q : length registers ≡ 16) where
  stack_of_parts : stack_part (a ∷ (cells ++ registers)) ≡ cells
  stack_of_parts = take_at cells registers 16 p

  registers_of_parts : register_part (a ∷ (cells ++ registers)) ≡ registers
  registers_of_parts = ap (take 16) (drop_at cells registers 16 p) ∙ take_all 16 registers (omega arith)

module _ (h : ℕ) (cells registers out : List ℕ) (e : out ≡ (h + 1) ∷ (cells ++ registers)) (p : length cells ≡ 16) (q : length registers ≡ 16) where
  pub row_types_written : row_types out ≡ types_in cells h
  row_types_written =
      let z : (h + 1) - 1 ≡ h = omega arith in
      let s = ap stack_part e ∙ stack_of_parts (h + 1) cells registers p q in
      let f : get_or out 0 0 - 1 ≡ h = ap (λ (l : List ℕ). get_or l 0 0 - 1) e ∙ z in
      rw (s, f)

  pub row_cells_written : (n : ℕ) → row_cells n out ≡ cells_in (take n registers)
  row_cells_written n = ap (λ (l : List ℕ). cells_in (take n l)) (ap register_part e ∙ registers_of_parts (h + 1) cells registers p q)
