-- Rows are ordered with a clash on top, and the join is the least upper bound. Assumes nothing.
use Rattle.std.specs.Prelude.{◌≡◌, ◌≤◌, List, Some, None, Option, refl}
use Rattle.std.proofs.Common.{sym, ap, subst, ◌∙◌, arith}
use Rattle.jinja.specs.declared.ty.Ty.{Ty}
use Rattle.jinja.specs.Program.{Program}
use Rattle.jinja.specs.Classes.{maybe}
use Rattle.jinja.specs.Lookups.{Owned}
use Rattle.jinja.specs.WellFormed.{WellFormed}
use Rattle.jinja.specs.Rows.{Cell, Row, reached, RowOf, no_row, row}
use Rattle.jinja.specs.Order.{LeRow}
use Rattle.jinja.specs.Join.{join_row}
use Rattle.jinja.specs.TypingLaws.{Lub}
use Rattle.jinja.specs.Rising.{Allowed, unreached_allowed, reached_allowed}
use Rattle.jinja.proofs.Options.{conflict}
use Rattle.jinja.proofs.Order.{row_order}
use Rattle.jinja.proofs.Join.{join_laws}
use Rattle.jinja.proofs.Rising.{above_allowed}
use Rattle.walk.specs.Lattice as lattice
use Rattle.type_rows.specs.Merging.{Merge, merged, clash, merge, row_height, InUse, row_in_use, clash_in_use}

-- every row lies below a clash
pub data LeMerge (P : Program) : Merge → Merge → Type 0 where
  le_clash : {x : Merge} → LeMerge P x clash
  le_merged : {r s : Row} → LeRow P r s → LeMerge P (merged r) (merged s)

pub record LubMerge (P : Program) (x y z : Merge) : Type 0 where
  pub left : LeMerge P x z
  pub right : LeMerge P y z
  pub least : (v : Merge) → LeMerge P x v → LeMerge P y v → LeMerge P z v

pub row_of_merged : {P : Program} {r s : Row} → LeMerge P (merged r) (merged s) → LeRow P r s
row_of_merged (le_merged l) = l

-- a row in use is one that the method allows
pub allowed_from : {P : Program} {M : Owned} {r : Row} → RowOf P M r → row_height r ≤ M.method.height → Allowed P M r
allowed_from no_row h = unreached_allowed
allowed_from (row s l n) h = reached_allowed (row s l n) h

pub allowed_in_use : {P : Program} {M : Owned} {r : Row} → Allowed P M r → InUse P M (merged r)
allowed_in_use unreached_allowed = row_in_use no_row (omega arith)
allowed_in_use (reached_allowed r h) = row_in_use r h

-- what lies above a reached row of the method is a row of the method, of the same height
pub above_in_use : {P : Program} {M : Owned} {st : List Ty} {lt : List Cell} {r : Row} → InUse P M (merged (reached st lt)) → LeRow P (reached st lt) r → InUse P M (merged r)
above_in_use (row_in_use x h) l = allowed_in_use (above_allowed (reached_allowed x h) l)

module _ {P : Program} (w : WellFormed P) where
  pub merge_refl : {M : Owned} {x : Merge} → InUse P M x → LeMerge P x x
  merge_refl (row_in_use r h) = le_merged ((row_order P w).reflexive r)
  merge_refl clash_in_use = le_clash

  pub merge_trans : {x y z : Merge} → LeMerge P x y → LeMerge P y z → LeMerge P x z
  merge_trans l le_clash = le_clash
  merge_trans (le_merged l) (le_merged k) = le_merged ((row_order P w).transitive l k)

  pub merge_antisym : {x y : Merge} → LeMerge P x y → LeMerge P y x → x ≡ y
  merge_antisym le_clash le_clash = refl
  merge_antisym (le_merged l) (le_merged k) = ap merged ((row_order P w).antisymmetric l k)

  rows_lub : {M : Owned} {r s : Row} → RowOf P M r → RowOf P M s → LubMerge P (merged r) (merged s) (maybe (join_row P r s) clash merged)
  rows_lub {M} {r} {s} x y = go (join_row P r s) refl
    where
      least_of : {t : Row} {v : Merge} → Lub P r s t → LeMerge P (merged r) v → LeMerge P (merged s) v → LeMerge P (merged t) v
      least_of u le_clash k = le_clash
      least_of u (le_merged l) (le_merged k) = le_merged (u.least l k)

      no_bound : {v : Merge} → join_row P r s ≡ None → LeMerge P (merged r) v → LeMerge P (merged s) v → LeMerge P clash v
      no_bound e le_clash k = le_clash
      no_bound e (le_merged l) (le_merged k) = absurd (conflict (sym e ∙ ((join_laws P w).bounded l k).1))

      go : (o : Option Row) → join_row P r s ≡ o → LubMerge P (merged r) (merged s) (maybe o clash merged)
      go None e = record { left = le_clash; right = le_clash; least = λ v l k. no_bound e l k }
      go (Some t) e = let u = (join_laws P w).joined r s x y e in record { left = le_merged u.left; right = le_merged u.right; least = λ v l k. least_of u l k }

  pub merge_lub : {M : Owned} {x y : Merge} → InUse P M x → InUse P M y → LubMerge P x y (merge P x y)
  merge_lub clash_in_use v = record { left = le_clash; right = le_clash; least = λ z l k. l }
  merge_lub (row_in_use r h) clash_in_use = record { left = le_clash; right = le_clash; least = λ z l k. k }
  merge_lub (row_in_use r h) (row_in_use s k) = rows_lub r s

  -- the order is that of the join
  pub le_to_join : {M : Owned} {x y : Merge} → InUse P M x → InUse P M y → LeMerge P x y → lattice.Le (merge P) x y
  le_to_join u v l = let b = merge_lub u v in merge_antisym (b.least _ l (merge_refl v)) b.right

  pub le_from_join : {M : Owned} {x y : Merge} → InUse P M x → InUse P M y → lattice.Le (merge P) x y → LeMerge P x y
  le_from_join {x = x} u v e = subst (LeMerge P x) e (merge_lub u v).left
