-- What the numbers of a row show, by the first of them. Assumes nothing.
use Rattle.std.proofs.Common.{◌≡◌, ℕ, suc, ◌-◌, ◌<◌, ◌≤◌, Bool, true, false, cond, List, [], ◌∷◌, length, get_or, Option, ap, ◌∙◌, arith}
use Rattle.std.specs.List.{slice_get, AllByRecursion}
use Rattle.std.proofs.lemmas.Bool.{le-leb, lt-leb, ltb-true}
use Rattle.jinja.specs.declared.ty.Ty.{Ty}
use Rattle.jinja.specs.declared.ty.Ty.TheVariants.{Void, Boolean, Integer, NullType, Class}
use Rattle.jinja.specs.declared.instr.Instr.{Instr}
use Rattle.jinja.specs.Program.{Program}
use Rattle.jinja.specs.Classes.{maybe, table}
use Rattle.jinja.specs.Lookups.{Owned}
use Rattle.jinja.specs.WellFormed.{TypeExists}
use Rattle.jinja.specs.Types.{type_number}
use Rattle.jinja.specs.Rows.{Cell, unreached, reached, row}
use Rattle.jinja.proofs.Options.{nth_inside}
use Rattle.type_rows.specs.MethodFlow.{refuses_row, refuses}
use Rattle.type_rows.specs.Merging.{merged, clash, InUse, row_in_use}
use Rattle.type_rows.specs.Numbers.{absent, row_of_height, row_of_first, read_row}
use Rattle.type_rows.specs.Registers.{Told}
use Rattle.type_rows.specs.RowSteps.{row_types, row_cells}

pub read_unreached : (n : ℕ) (xs : List ℕ) → get_or xs 0 0 ≡ 0 → read_row n xs ≡ merged unreached
unfolding read_row
read_unreached n xs e = rw e

pub read_reached : (n : ℕ) (xs : List ℕ) → 0 < get_or xs 0 0 → get_or xs 0 0 ≤ 17 → read_row n xs ≡ merged (reached (row_types xs) (row_cells n xs))
unfolding read_row
read_reached n xs p l =
    let e : get_or xs 0 0 ≡ suc (get_or xs 0 0 - 1) = omega arith in
    ap (λ (a : ℕ). row_of_first n a xs) e ∙ ap (λ (b : Bool). cond b (merged (row_of_height n (get_or xs 0 0 - 1) xs)) clash) (le-leb (get_or xs 0 0 - 1) 16 (omega arith))

pub read_clash : (n : ℕ) (xs : List ℕ) → 17 < get_or xs 0 0 → read_row n xs ≡ clash
unfolding read_row
read_clash n xs l =
    let e : get_or xs 0 0 ≡ suc (get_or xs 0 0 - 1) = omega arith in
    ap (λ (a : ℕ). row_of_first n a xs) e ∙ ap (λ (b : Bool). cond b (merged (row_of_height n (get_or xs 0 0 - 1) xs)) clash) (lt-leb (get_or xs 0 0 - 1) 16 (omega arith))

pub type_told : (P : Program) (t : Ty) → length (table P) ≤ 32 → TypeExists P t → type_number t < absent
type_told P Void l e = omega arith
type_told P Boolean l e = omega arith
type_told P Integer l e = omega arith
type_told P NullType l e = omega arith
type_told P (Class c) l e = let k = ltb-true c (length (table P)) e in omega arith

types_told : (P : Program) (ts : List Ty) → length (table P) ≤ 32 → AllByRecursion (TypeExists P) ts → Told ts
types_told P [] l a = tt
types_told P (t ∷ ts) l a = (type_told P t l a.0, types_told P ts l a.1)

-- the types of a row in use are told from an absent one
pub row_in_use_told : (P : Program) (M : Owned) (st : List Ty) (lt : List Cell) → length (table P) ≤ 32 → InUse P M (merged (reached st lt)) → Told st
row_in_use_told P M st lt l (row_in_use (row s r n) h) = types_told P st l s

-- what the instruction does with the row that the numbers show
module _ (P : Program) (M : Owned) (pc n : ℕ) (xs : List ℕ) where
  pub refuses_unreached : pc < length M.method.code → get_or xs 0 0 ≡ 0 → refuses P M pc (read_row n xs) ≡ false
  refuses_unreached l e = ap (refuses P M pc) (read_unreached n xs e) ∙ rw (nth_inside M.method.code pc l).1

  pub refuses_clash : 17 < get_or xs 0 0 → refuses P M pc (read_row n xs) ≡ true
  refuses_clash l = ap (refuses P M pc) (read_clash n xs l)

  pub refuses_reached : (o : Option Instr) (k : ℕ) → slice_get M.method.code pc ≡ o → k ≡ n → 0 < get_or xs 0 0 → get_or xs 0 0 ≤ 17 → refuses P M pc (read_row n xs) ≡ maybe o true (λ i. refuses_row P M i pc (reached (row_types xs) (row_cells k xs)))
  refuses_reached o k e f p l = ap (refuses P M pc) (read_reached n xs p l) ∙ rw (e, f)
