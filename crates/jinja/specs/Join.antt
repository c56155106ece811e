-- The join of classes, types, registers and rows: what lies above both and below all else that does. Assumes nothing.
use Rattle.std.specs.Prelude.{ℕ, zero, suc, ◌+◌, Bool, true, false, cond, List, [], ◌∷◌, Some, None, Option, ◌==◌, nat_lt}
use Rattle.jinja.specs.declared.ty.Ty.{Ty}
use Rattle.jinja.specs.declared.ty.Ty.TheVariants.{Void, Boolean, Integer, NullType, Class}
use Rattle.jinja.specs.Options.{◌>>=◌, ◌>>◌}
use Rattle.jinja.specs.Program.{Program}
use Rattle.jinja.specs.Types.{same_type}
use Rattle.jinja.specs.Classes.{maybe, superclass_of}
use Rattle.jinja.specs.Rows.{Cell, usable, unusable, Row, unreached, reached}

-- the higher number is replaced by its superclass until both are equal, at most k times
abbrev pub meet_within : Program → ℕ → ℕ → ℕ → ℕ
meet_within P zero c d = c
meet_within P (suc k) c d = cond (c == d) c (cond (nat_lt c d) (meet_within P k c (superclass_of P d)) (meet_within P k (superclass_of P c) d))

-- the nearest common superclass
unfoldable pub nearest : Program → ℕ → ℕ → ℕ
nearest P c d = meet_within P (c + d) c d

abbrev pub is_reference : Ty → Bool
is_reference Void = false
is_reference Boolean = false
is_reference Integer = false
is_reference NullType = true
is_reference (Class c) = true

abbrev pub join_class : Program → ℕ → Ty → Option Ty
join_class P c Void = None
join_class P c Boolean = None
join_class P c Integer = None
join_class P c NullType = Some (Class c)
join_class P c (Class d) = Some (Class (nearest P c d))

abbrev pub join_type : Program → Ty → Ty → Option Ty
join_type P Void u = same_type Void u >> Some u
join_type P Boolean u = same_type Boolean u >> Some u
join_type P Integer u = same_type Integer u >> Some u
join_type P NullType u = is_reference u >> Some u
join_type P (Class c) u = join_class P c u

-- stacks of one height, cell by cell
abbrev pub join_stack : Program → List Ty → List Ty → Option (List Ty)
join_stack P [] [] = Some []
join_stack P [] (u ∷ us) = None
join_stack P (t ∷ ts) [] = None
join_stack P (t ∷ ts) (u ∷ us) = join_type P t u >>= λ v. join_stack P ts us >>= λ vs. Some (v ∷ vs)

-- registers of no common type become unusable
abbrev pub join_cell : Program → Cell → Cell → Cell
join_cell P unusable d = unusable
join_cell P (usable t) unusable = unusable
join_cell P (usable t) (usable u) = maybe (join_type P t u) unusable usable

abbrev pub join_cells : Program → List Cell → List Cell → Option (List Cell)
join_cells P [] [] = Some []
join_cells P [] (u ∷ us) = None
join_cells P (t ∷ ts) [] = None
join_cells P (t ∷ ts) (u ∷ us) = join_cells P ts us >>= λ vs. Some (join_cell P t u ∷ vs)

abbrev pub join_row : Program → Row → Row → Option Row
join_row P unreached r = Some r
join_row P (reached s l) unreached = Some (reached s l)
join_row P (reached s l) (reached s' l') = join_stack P s s' >>= λ a. join_cells P l l' >>= λ b. Some (reached a b)
