-- Numbers joined pair by pair are stacks and registers joined. Assumes nothing.
use Rattle.std.proofs.Common.{◌≡◌, ℕ, ◌<◌, ◌≤◌, Bool, true, false, cond, ◌||◌, eqb, List, [], ◌∷◌, map, length, Some, None, Option, sym, refl, ap, ◌∙◌, subst, arith}
use Rattle.std.specs.List.{AllByRecursion}
use Rattle.std.proofs.lemmas.Bool.{ne_eqb, lt-ltb, ltb-true}
use Rattle.jinja.specs.declared.ty.Ty.{Ty}
use Rattle.jinja.specs.declared.ty.Ty.TheVariants.{Void, Boolean, Integer, NullType, Class}
use Rattle.jinja.specs.Options.{◌>>=◌}
use Rattle.jinja.specs.Program.{Program}
use Rattle.jinja.specs.Classes.{maybe, table}
use Rattle.jinja.specs.WellFormed.{TypeExists, WellFormed}
use Rattle.jinja.specs.Types.{type_number, type_of_number, same_type}
use Rattle.jinja.specs.Rows.{Cell, usable, unusable, CellExists}
use Rattle.jinja.specs.Join.{is_reference, join_type, join_stack, join_cell, join_cells}
use Rattle.jinja.proofs.Options.{conflict, some_inj}
use Rattle.jinja.proofs.Bridge.{tested}
use Rattle.jinja.proofs.Climbs.{upper_exists}
use Rattle.jinja.proofs.Join.{join_laws}
use Rattle.type_rows.specs.Joining.{join_number, join_numbers, has_absent}
use Rattle.type_rows.specs.Numbers.{absent, cell_number, cell_of_number, cells_in}
use Rattle.type_rows.proofs.Back.{type_back, number_back}
use Rattle.type_rows.proofs.Cells.{cell_of_type}
use Rattle.type_rows.proofs.Reading.{type_told}

module _ {P : Program} (w : WellFormed P) (few : length (table P) ≤ 32) where
  joined_exists : (t u : Ty) {v : Ty} → TypeExists P t → TypeExists P u → join_type P t u ≡ Some v → TypeExists P v
  joined_exists Void u a b e = subst (TypeExists P) (some_inj (tested (same_type Void u) (Some u) e).1) b
  joined_exists Boolean u a b e = subst (TypeExists P) (some_inj (tested (same_type Boolean u) (Some u) e).1) b
  joined_exists Integer u a b e = subst (TypeExists P) (some_inj (tested (same_type Integer u) (Some u) e).1) b
  joined_exists NullType u a b e = subst (TypeExists P) (some_inj (tested (is_reference u) (Some u) e).1) b
  joined_exists (Class c) Void a b e = absurd (conflict e)
  joined_exists (Class c) Boolean a b e = absurd (conflict e)
  joined_exists (Class c) Integer a b e = absurd (conflict e)
  joined_exists (Class c) NullType a b e = subst (TypeExists P) (some_inj e) a
  joined_exists (Class c) (Class d) a b e = subst (TypeExists P) (some_inj e) (lt-ltb _ _ (upper_exists ((join_laws P w).classes c d (ltb-true _ _ a) (ltb-true _ _ b)).left))

  told_number : (n : ℕ) → TypeExists P (type_of_number n) → n < absent
  told_number n e = let l = type_told P (type_of_number n) few e in let z = number_back n in omega arith

  cell_here : (n : ℕ) → TypeExists P (type_of_number n) → cell_of_number n ≡ usable (type_of_number n)
  cell_here n e = cell_of_type n (type_of_number n) (told_number n e) refl

  number_joined : (a b : ℕ) → TypeExists P (type_of_number a) → TypeExists P (type_of_number b) → join_number P a b ≡ cell_number (maybe (join_type P (type_of_number a) (type_of_number b)) unusable usable)
  number_joined a b e f = rw (cell_here a e, cell_here b f)

  module _ (u v : ℕ) (a : TypeExists P (type_of_number u)) (b : TypeExists P (type_of_number v)) (js : List ℕ) (s : Option (List Ty)) (ih : s ≡ cond (has_absent js) None (Some (map type_of_number js))) where
    on_top : (t : Ty) (h : Bool) → (cond h None (Some (map type_of_number js)) >>= λ xs. Some (t ∷ xs)) ≡ cond h None (Some (t ∷ map type_of_number js))
    on_top t true = refl
    on_top t false = refl

    top_joined : (o : Option Ty) → join_type P (type_of_number u) (type_of_number v) ≡ o → (o >>= λ t. s >>= λ xs. Some (t ∷ xs)) ≡ cond (eqb (cell_number (maybe o unusable usable)) absent || has_absent js) None (Some (type_of_number (cell_number (maybe o unusable usable)) ∷ map type_of_number js))
    top_joined None q = refl
    top_joined (Some t) q =
        let l = type_told P t few (joined_exists (type_of_number u) (type_of_number v) a b q) in
        rw (ih, ne_eqb (type_number t) absent (omega arith), type_back t) (on_top t (has_absent js))

  -- stacks have a join exactly where no joined number is absent, and then it is read from the numbers
  pub stack_joined : (us vs : List ℕ) → length us ≡ length vs → AllByRecursion (TypeExists P) (map type_of_number us) → AllByRecursion (TypeExists P) (map type_of_number vs) → join_stack P (map type_of_number us) (map type_of_number vs) ≡ cond (has_absent (join_numbers P us vs)) None (Some (map type_of_number (join_numbers P us vs)))
  stack_joined [] [] n a b = refl
  stack_joined [] (v ∷ vs) n a b = absurd (omega arith)
  stack_joined (u ∷ us) [] n a b = absurd (omega arith)
  stack_joined (u ∷ us) (v ∷ vs) n a b = rw (number_joined u v a.0 b.0) (top_joined u v a.0 b.0 (join_numbers P us vs) (join_stack P (map type_of_number us) (map type_of_number vs)) (stack_joined us vs (omega arith) a.1 b.1) (join_type P (type_of_number u) (type_of_number v)) refl)

  pub cell_back : (c : Cell) → CellExists P c → cell_of_number (cell_number c) ≡ c
  cell_back (usable t) e = cell_of_type (type_number t) t (type_told P t few e) (type_back t)
  cell_back unusable e = refl

  joined_cell_exists : (c d : Cell) → CellExists P c → CellExists P d → CellExists P (join_cell P c d)
  joined_cell_exists unusable d a b = tt
  joined_cell_exists (usable t) unusable a b = tt
  joined_cell_exists (usable t) (usable u) a b = go (join_type P t u) refl
    where
      go : (o : Option Ty) → join_type P t u ≡ o → CellExists P (maybe o unusable usable)
      go None q = tt
      go (Some v) q = joined_exists t u a b q

  pub cells_joined : (us vs : List ℕ) → length us ≡ length vs → AllByRecursion (CellExists P) (cells_in us) → AllByRecursion (CellExists P) (cells_in vs) → join_cells P (cells_in us) (cells_in vs) ≡ Some (cells_in (join_numbers P us vs))
  cells_joined [] [] n a b = refl
  cells_joined [] (v ∷ vs) n a b = absurd (omega arith)
  cells_joined (u ∷ us) [] n a b = absurd (omega arith)
  cells_joined (u ∷ us) (v ∷ vs) n a b =
      let c = join_cell P (cell_of_number u) (cell_of_number v) in
      let back = cell_back c (joined_cell_exists (cell_of_number u) (cell_of_number v) a.0 b.0) in
      ap (λ (o : Option (List Cell)). o >>= λ cs. Some (c ∷ cs)) (cells_joined us vs (omega arith) a.1 b.1) ∙ ap (λ (x : Cell). Some (x ∷ cells_in (join_numbers P us vs))) (sym back)
