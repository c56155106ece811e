-- The numbers of a row that nothing has reached show it. Assumes nothing.
use Rattle.std.proofs.Common.{◌≡◌, ℕ, zero, suc, List, length, get_or, replicate, sym, ap, ◌∙◌, subst, arith}
use Rattle.std.proofs.lemmas.List.{length-replicate}
use Rattle.jinja.specs.Program.{Program}
use Rattle.jinja.specs.Lookups.{Owned}
use Rattle.jinja.specs.Rows.{unreached, registers, no_row}
use Rattle.type_rows.specs.Merging.{merged, InUse, row_in_use}
use Rattle.type_rows.specs.Numbers.{absent, Small, Shows, read_row, row_numbers}
use Rattle.type_rows.proofs.Reading.{read_unreached}

pub absent_small : (n : ℕ) → Small (replicate n absent)
absent_small zero k = omega arith
absent_small (suc n) zero = omega arith
absent_small (suc n) (suc k) = absent_small n k

unreached_small : Small (row_numbers unreached)
unreached_small zero = omega arith
unreached_small (suc k) = absent_small 32 k

module _ (M : Owned) {xs : List ℕ} (e : xs ≡ row_numbers unreached) where
  pub unreached_read : read_row (registers M) xs ≡ merged unreached
  unreached_read = read_unreached (registers M) xs (ap (λ (l : List ℕ). get_or l 0 0) e)

pub unreached_shown : (P : Program) (M : Owned) {xs : List ℕ} → xs ≡ row_numbers unreached → Shows P M xs
unreached_shown P M {xs} e =
    let n = length-replicate 32 absent in
    record {
      whole = ap length e ∙ omega arith;
      small = λ k. rw e (unreached_small k);
      in_use = subst (InUse P M) (sym (unreached_read M e)) (row_in_use no_row (omega arith));
    }
