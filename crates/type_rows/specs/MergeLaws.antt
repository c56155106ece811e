-- Rows with a clash on top are a lattice in which a row rises only so often. Assumes nothing.
use Rattle.std.specs.Prelude.{◌≡◌, ◌<◌, ◌⊎◌, refl}
use Rattle.std.proofs.Common.{sym, ap, inl, inr, ⊎_elim, arith}
use Rattle.jinja.specs.Program.{Program}
use Rattle.jinja.specs.Lookups.{Owned}
use Rattle.jinja.specs.WellFormed.{WellFormed}
use Rattle.jinja.specs.Rows.{unreached, reached, no_row}
use Rattle.jinja.proofs.Rising.{row_falls}
use Rattle.walk.specs.Lattice.{Lattice}
use Rattle.type_rows.specs.Merging.{Merge, merged, clash, merge, InUse, row_in_use, clash_in_use, left}
use Rattle.type_rows.specs.MergeOrder.{LeMerge, le_clash, le_merged, merge_refl, merge_trans, merge_antisym, merge_lub, allowed_from, above_in_use}

lowest : (P : Program) (x : Merge) → merge P (merged unreached) x ≡ x
lowest P clash = refl
lowest P (merged r) = refl

module _ {P : Program} (w : WellFormed P) where
  merge_falls : {M : Owned} {x y : Merge} → InUse P M y → LeMerge P x y → (x ≡ y) ⊎ (left P M y < left P M x)
  merge_falls {x = merged r} y le_clash = inr (omega arith)
  merge_falls {x = clash} y le_clash = inl refl
  merge_falls (row_in_use y h) (le_merged l) = ⊎_elim (λ e. inl (ap merged e)) (λ k. inr (omega arith)) (row_falls w (allowed_from y h) l)

  module _ {M : Owned} where
    merge_in_use : (x y : Merge) → InUse P M x → InUse P M y → InUse P M (merge P x y)
    merge_in_use clash y a b = clash_in_use
    merge_in_use (merged r) clash a b = clash_in_use
    merge_in_use (merged unreached) (merged s) a b = b
    merge_in_use (merged (reached s l)) (merged unreached) a b = a
    merge_in_use (merged (reached s l)) (merged (reached s' l')) a b = above a (merge_lub w a b).left
      where
        above : {z : Merge} → InUse P M (merged (reached s l)) → LeMerge P (merged (reached s l)) z → InUse P M z
        above a le_clash = clash_in_use
        above a (le_merged k) = above_in_use a k

    pub merge_lattice : Lattice (InUse P M) (merged unreached) (merge P) (left P M)
    merge_lattice = record {
      good_bottom = row_in_use no_row (omega arith);
      good_join = merge_in_use;
      lowest = λ x a. lowest P x;
      idem = λ x a. let l = merge_lub w a a in let r = merge_refl w a in merge_antisym w (l.least x r r) l.left;
      comm = λ x y a b.
          let l = merge_lub w a b in
          let k = merge_lub w b a in
          merge_antisym w (l.least (merge P y x) k.right k.left) (k.least (merge P x y) l.right l.left);
      assoc = λ x y z a b c.
          let xy = merge_lub w a b in
          let yz = merge_lub w b c in
          let l = merge_lub w (merge_in_use x y a b) c in
          let k = merge_lub w a (merge_in_use y z b c) in
          merge_antisym w
          (l.least _ (xy.least _ k.left (merge_trans w yz.left k.right)) (merge_trans w yz.right k.right))
          (k.least _ (merge_trans w xy.left l.left) (yz.least _ (merge_trans w xy.right l.left) l.right));
      rises = λ x y a b ne. ⊎_elim (λ e. absurd (ne (sym e))) (λ l. l) (merge_falls (merge_in_use x y a b) (merge_lub w a b).left);
    }
