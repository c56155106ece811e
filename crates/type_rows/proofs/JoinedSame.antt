-- A cell joined with itself is itself. Assumes nothing.
use Rattle.std.proofs.Common.{◌≡◌, ℕ, zero, suc, ◌+◌, Some, Option, sym, refl, ap, ◌∙◌}
use Rattle.std.proofs.lemmas.Bool.{eq-eqb}
use Rattle.jinja.specs.declared.ty.Ty.{Ty}
use Rattle.jinja.specs.declared.ty.Ty.TheVariants.{Void, Boolean, Integer, NullType, Class}
use Rattle.jinja.specs.Program.{Program}
use Rattle.jinja.specs.Classes.{maybe}
use Rattle.jinja.specs.Rows.{Cell, usable, unusable}
use Rattle.jinja.specs.Join.{meet_within, nearest, join_type, join_cell}
use Rattle.type_rows.specs.Joining.{join_number}
use Rattle.type_rows.specs.Numbers.{cell_number, cell_of_number}
use Rattle.type_rows.proofs.Back.{cell_number_back}

met : (P : Program) (k c : ℕ) → meet_within P k c c ≡ c
met P zero c = refl
met P (suc k) c = rw (eq-eqb c c refl)

nearest_same : (P : Program) (c : ℕ) → nearest P c c ≡ c
unfolding nearest
nearest_same P c = met P (c + c) c

type_same : (P : Program) (t : Ty) → join_type P t t ≡ Some t
type_same P Void = refl
type_same P Boolean = refl
type_same P Integer = refl
type_same P NullType = refl
type_same P (Class c) = ap (λ (d : ℕ). Some (Class d)) (nearest_same P c)

cell_same : (P : Program) (c : Cell) → join_cell P c c ≡ c
cell_same P unusable = refl
cell_same P (usable t) = ap (λ (o : Option Ty). maybe o unusable usable) (type_same P t)

pub joined_same : (P : Program) (a b : ℕ) → a ≡ b → a ≡ join_number P a b
joined_same P a b e = sym (ap (λ (n : ℕ). join_number P a n) (sym e) ∙ ap cell_number (cell_same P (cell_of_number a)) ∙ cell_number_back a)
