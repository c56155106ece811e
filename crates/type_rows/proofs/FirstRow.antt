-- The numbers of the row that a method begins with, and what they show. Assumes nothing.
use Rattle.std.proofs.Common.{◌≡◌, ℕ, zero, suc, ◌+◌, ◌-◌, ◌<◌, ◌≤◌, List, [], ◌∷◌, ◌++◌, map, length, get_or, take, drop, set, replicate, sym, refl, ap, ◌∙◌, subst, arith}
use borrow.Rule.Slice.PartMut.{put_mid}
use Rattle.std.specs.List.{AllByRecursion}
use Rattle.std.proofs.lemmas.List.{length-append, length-map, length-replicate, take_at, append-nil, drop-replicate}
use Rattle.jinja.specs.declared.ty.Ty.{Ty}
use Rattle.jinja.specs.Program.{Program}
use Rattle.jinja.specs.Classes.{table}
use Rattle.jinja.specs.Lookups.{Owned}
use Rattle.jinja.specs.WellFormed.{WellFormed}
use Rattle.jinja.specs.Types.{type_number}
use Rattle.jinja.specs.Rows.{Cell, usable, unusable, reached, row, registers, first_registers, first_row, CellExists}
use Rattle.type_rows.specs.Merging.{merged, InUse, row_in_use}
use Rattle.type_rows.specs.Numbers.{absent, cell_number, cells_in, padded, Small, Shows, read_row, row_numbers}
use Rattle.type_rows.proofs.JoinedTypes.{cell_back}
use Rattle.type_rows.proofs.Reading.{read_reached, type_told}
use Rattle.type_rows.proofs.RowParts.{small_append}
use Rattle.type_rows.proofs.RowWritten.{row_cells_written}
use Rattle.type_rows.proofs.Unreached.{absent_small}

-- one type more is written into the cells
written_more : (ts : List Ty) (xs : List ℕ) (k : ℕ) (d : Ty) → k < length ts → k < length xs → set (map type_number (take k ts) ++ drop k xs) k (type_number (get_or ts k d)) ≡ map type_number (take (suc k) ts) ++ drop (suc k) xs
written_more [] xs k d l m = absurd (omega arith)
written_more (t ∷ ts) [] k d l m = absurd (omega arith)
written_more (t ∷ ts) (x ∷ xs) zero d l m = refl
written_more (t ∷ ts) (x ∷ xs) (suc k) d l m = ap (λ (ys : List ℕ). type_number t ∷ ys) (written_more ts xs k d (omega arith) (omega arith))

pub type_written : (ts : List Ty) (xs cells : List ℕ) (k r : ℕ) (d : Ty) → k < length ts → length ts ≤ length xs → cells ≡ map type_number (take k ts) ++ drop k xs → r ≡ type_number (get_or ts k d) → set cells k r ≡ map type_number (take (k + 1) ts) ++ drop (k + 1) xs
type_written ts xs cells k r d l m e f =
    let z : suc k ≡ k + 1 = omega arith in
    ap (λ (c : List ℕ). set c k r) e ∙ ap (set (map type_number (take k ts) ++ drop k xs) k) f ∙ written_more ts xs k d l (omega arith) ∙ ap (λ (a : ℕ). map type_number (take a ts) ++ drop a xs) z

-- unusable extras and absent registers have one number
extras_absent : (extras a b : ℕ) → extras + a ≡ b → map cell_number (replicate extras unusable) ++ replicate a absent ≡ replicate b absent
extras_absent zero a b e = let z : a ≡ b = omega arith in ap (λ (n : ℕ). replicate n absent) z
extras_absent (suc extras) a b e =
    let z : suc (extras + a) ≡ b = omega arith in
    ap (λ (l : List ℕ). absent ∷ l) (extras_absent extras a (extras + a) refl) ∙ ap (λ (n : ℕ). replicate n absent) z

params_first : (ts : List Ty) (extras a b : ℕ) → extras + a ≡ b → map cell_number (map usable ts ++ replicate extras unusable) ++ replicate a absent ≡ map type_number ts ++ replicate b absent
params_first [] extras a b e = extras_absent extras a b e
params_first (t ∷ ts) extras a b e = ap (λ (l : List ℕ). type_number t ∷ l) (params_first ts extras a b e)

-- the numbers of the first row, register by register
first_numbers : (M : Owned) → registers M ≤ 16 → row_numbers (first_row M) ≡ (0 + 1) ∷ (replicate 16 absent ++ (4 + M.owner) ∷ (map type_number M.method.params ++ replicate (15 - length M.method.params) absent))
first_numbers M few =
    let m = M.method in
    let extras : List Cell = replicate m.extras unusable in
    let cells : List Cell = map usable m.params ++ extras in
    let a = length-append (map usable m.params) extras in
    let b = length-map m.params usable in
    let c = length-replicate m.extras unusable in
    let d = length-map cells cell_number in
    let z : m.extras + (16 - suc (length (map cell_number cells))) ≡ 15 - length m.params = omega arith in
    ap (λ (l : List ℕ). 1 ∷ (replicate 16 absent ++ (4 + M.owner) ∷ l)) (params_first m.params m.extras (16 - suc (length (map cell_number cells))) (15 - length m.params) z)

-- and as they are written
pub first_written : (M : Owned) → registers M ≤ 16 → (r : ℕ) (ys : List ℕ) → r ≡ 4 + M.owner → ys ≡ map type_number M.method.params ++ drop (length M.method.params) (replicate 15 absent) → (0 + 1) ∷ (replicate 16 absent ++ put_mid 1 15 (set (replicate 16 absent) 0 r) ys) ≡ row_numbers (first_row M)
first_written M few r ys e f =
    ap (λ (l : List ℕ). 1 ∷ (replicate 16 absent ++ r ∷ l)) (append-nil ys ∙ f ∙ ap (λ (l : List ℕ). map type_number M.method.params ++ l) (drop-replicate (length M.method.params) 15 absent))
    ∙ ap (λ (a : ℕ). 1 ∷ (replicate 16 absent ++ a ∷ (map type_number M.method.params ++ replicate (15 - length M.method.params) absent))) e
    ∙ sym (first_numbers M few)

small_cells : (P : Program) → length (table P) ≤ 32 → (lt : List Cell) → AllByRecursion (CellExists P) lt → Small (map cell_number lt)
small_cells P few [] a k = omega arith
small_cells P few (usable t ∷ lt) a zero = let l = type_told P t few a.0 in omega arith
small_cells P few (unusable ∷ lt) a zero = omega arith
small_cells P few (c ∷ lt) a (suc k) = small_cells P few lt a.1 k

-- a row with an empty stack is read back from its numbers
module _ {P : Program} (w : WellFormed P) (few : length (table P) ≤ 32) (M : Owned) (lt : List Cell) (narrow : registers M ≤ 16) where
  abbrev cells : List ℕ
  cells = replicate 16 absent

  abbrev behind : List ℕ
  behind = padded 16 (map cell_number lt)

  abbrev numbers : List ℕ
  numbers = row_numbers (reached [] lt)

  all_back : (cs : List Cell) → AllByRecursion (CellExists P) cs → cells_in (map cell_number cs) ≡ cs
  all_back [] a = refl
  all_back (c ∷ cs) a = rw (cell_back w few c a.0, all_back cs a.1) refl

  behind_long : length lt ≡ registers M → length behind ≡ 16
  behind_long n =
      let a = length-append (map cell_number lt) (replicate (16 - length (map cell_number lt)) absent) in
      let b = length-map lt cell_number in
      let c = length-replicate (16 - length (map cell_number lt)) absent in
      omega arith

  begin_read : InUse P M (merged (reached [] lt)) → read_row (registers M) numbers ≡ merged (reached [] lt)
  begin_read (row_in_use (row s l n) h) =
      let b = length-map lt cell_number in
      let e = row_cells_written 0 cells behind numbers refl refl (behind_long n) (registers M) in
      read_reached (registers M) numbers (omega arith) (omega arith)
      ∙ ap (λ (a : List Cell). merged (reached [] a)) (e ∙ ap cells_in (take_at (map cell_number lt) (replicate (16 - length (map cell_number lt)) absent) (registers M) (b ∙ n)) ∙ all_back lt l)

  begin_shown : InUse P M (merged (reached [] lt)) → Shows P M numbers
  begin_shown (row_in_use (row s l n) h) =
      let a = length-append cells behind in
      let b = behind_long n in
      record {
        whole = omega arith;
        small = small;
        in_use = subst (InUse P M) (sym (begin_read (row_in_use (row s l n) h))) (row_in_use (row s l n) h);
      }
    where
      small : Small numbers
      small zero = omega arith
      small (suc k) = small_append cells behind (absent_small 16) (small_append (map cell_number lt) (replicate (16 - length (map cell_number lt)) absent) (small_cells P few lt l) (absent_small (16 - length (map cell_number lt)))) k

-- numbers that are those of the first row show it
module _ {P : Program} (w : WellFormed P) (few : length (table P) ≤ 32) (M : Owned) (narrow : registers M ≤ 16) (u : InUse P M (merged (first_row M))) {xs : List ℕ} (e : xs ≡ row_numbers (first_row M)) where
  pub first_read : read_row (registers M) xs ≡ merged (first_row M)
  first_read = ap (read_row (registers M)) e ∙ begin_read w few M (first_registers M) narrow u

  pub first_shown : Shows P M xs
  first_shown = subst (Shows P M) (sym e) (begin_shown w few M (first_registers M) narrow u)
