-- Joins of rows that are not of one height. Assumes nothing.
use Rattle.std.proofs.Common.{◌≡◌, ℕ, ◌-◌, ◌<◌, ◌≤◌, List, [], ◌∷◌, length, get_or, drop, set, Some, None, Option, refl, ap, ◌∙◌, ⊎_elim, arith}
use Rattle.std.proofs.lemmas.List.{length-drop, length-take-le}
use Rattle.std.proofs.lemmas.Bool.{cases_lt}
use Rattle.jinja.specs.declared.ty.Ty.{Ty}
use Rattle.jinja.specs.Options.{◌>>=◌}
use Rattle.jinja.specs.Program.{Program}
use Rattle.jinja.specs.Classes.{maybe}
use Rattle.jinja.specs.Rows.{unreached, reached}
use Rattle.jinja.specs.Join.{join_type, join_stack, join_cells}
use Rattle.type_rows.specs.Merging.{Merge, merged, clash, merge}
use Rattle.type_rows.specs.Numbers.{read_row, stack_part}
use Rattle.type_rows.specs.RowSteps.{row_types, row_cells}
use Rattle.type_rows.proofs.Cells.{types_height}
use Rattle.type_rows.proofs.Reading.{read_reached, read_clash}

pub with_unreached : (P : Program) (x : Merge) → merge P x (merged unreached) ≡ x
with_unreached P clash = refl
with_unreached P (merged unreached) = refl
with_unreached P (merged (reached s l)) = refl

none_behind : (P : Program) (o : Option Ty) (s : Option (List Ty)) → s ≡ None → (o >>= λ v. s >>= λ vs. Some (v ∷ vs)) ≡ None
none_behind P None s e = refl
none_behind P (Some v) s e = rw e

no_join : (P : Program) (ts us : List Ty) → (length ts ≡ length us → ⊥) → join_stack P ts us ≡ None
no_join P [] [] n = absurd (n refl)
no_join P [] (u ∷ us) n = refl
no_join P (t ∷ ts) [] n = refl
no_join P (t ∷ ts) (u ∷ us) n = none_behind P (join_type P t u) (join_stack P ts us) (no_join P ts us (λ e. n (omega arith)))

pub row_height_read : (xs : List ℕ) → length xs ≡ 33 → get_or xs 0 0 ≤ 17 → length (row_types xs) ≡ get_or xs 0 0 - 1
row_height_read xs l k =
    let a = length-drop 1 xs in
    let b = length-take-le 16 (drop 1 xs) (omega arith) in
    types_height (stack_part xs) (get_or xs 0 0 - 1) (omega arith)

-- a reached row clashes with a clash and with a row of another height
pub other_height : (P : Program) (n : ℕ) (xs ys : List ℕ) → length xs ≡ 33 → length ys ≡ 33 → 0 < get_or xs 0 0 → get_or xs 0 0 ≤ 17 → 0 < get_or ys 0 0 → (get_or xs 0 0 ≡ get_or ys 0 0 → ⊥) → merge P (read_row n xs) (read_row n ys) ≡ clash
other_height P n xs ys lx ly p q r ne =
    ap (λ (a : Merge). merge P a (read_row n ys)) (read_reached n xs p q)
    ∙ ⊎_elim
    (λ (l : 17 < get_or ys 0 0). ap (merge P (merged (reached (row_types xs) (row_cells n xs)))) (read_clash n ys l))
    (λ (l : get_or ys 0 0 ≤ 17).
    let a = row_height_read xs lx q in
    let b = row_height_read ys ly l in
    ap (merge P (merged (reached (row_types xs) (row_cells n xs)))) (read_reached n ys r l)
    ∙ ap (λ (s : Option (List Ty)). maybe (s >>= λ a. join_cells P (row_cells n xs) (row_cells n ys) >>= λ b. Some (reached a b)) clash merged) (no_join P (row_types xs) (row_types ys) (λ e. ne (omega arith))))
    (cases_lt 17 (get_or ys 0 0))

pub set_first : (xs : List ℕ) (a : ℕ) → length xs ≡ 33 → get_or (set xs 0 a) 0 0 ≡ a
set_first [] a l = absurd (omega arith)
set_first (x ∷ xs) a l = refl
