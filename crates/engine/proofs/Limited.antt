-- The methods of a program that keeps the rules fit a frame.
use Rattle.std.proofs.Common.{◌≡◌, ℕ, zero, suc, ◌+◌, ◌≤◌, true, ◌⊎◌, length, Some, sym, subst, inl, inr}
use Rattle.std.specs.List.{slice_get}
use Rattle.std.proofs.lemmas.Bool.{leb-true}
use Rattle.jinja.specs.Program.{ClassDecl, Program}
use Rattle.jinja.specs.Classes.{built_in, table, class_at}
use Rattle.jinja.specs.Lookups.{Owned, method_at}
use Rattle.format.specs.Rules.{keeps}
use Rattle.format.proofs.Kept.{kept_method_at}
use Rattle.jinja.proofs.Options.{conflict, some_inj}
use Rattle.format.proofs.Found.{method_of_class}
use Rattle.engine.specs.Limits.{cell_limit, register_limit, Fitting}

-- a class is built in, or one of the program's own
whose : (P : Program) (c : ℕ) {d : ClassDecl} → class_at P c ≡ Some d → (d ≡ built_in) ⊎ ((i : ℕ) × (slice_get P i ≡ Some d))
whose P zero e = inl (sym (some_inj e))
whose P (suc zero) e = inl (sym (some_inj e))
whose P (suc (suc zero)) e = inl (sym (some_inj e))
whose P (suc (suc (suc zero))) e = inl (sym (some_inj e))
whose P (suc (suc (suc (suc i)))) e = inr (i, e)

module _ (P : Program) (kept : keeps P ≡ true) where
  method_fits : (k : ℕ) (N : Owned) → method_at P k ≡ Some N → (N.method.height ≤ cell_limit) × (1 + length N.method.params + N.method.extras ≤ register_limit)
  unfolding method_at
  method_fits k N e =
      let w = method_of_class 0 k (table P) e in
      elim (whose P w.0 w.3) [
        | inl h ↦ absurd (conflict (subst (λ (d : ClassDecl). slice_get d.methods w.2 ≡ Some N.method) h w.4))
        | inr h ↦ (let m = kept_method_at P kept h.0 w.2 h.1 w.4 in (leb-true _ _ m.height, leb-true _ _ m.registers))
      ]

  pub fitting : Fitting P
  fitting = record { heights = λ k N e. (method_fits k N e).0; registers = λ k N e. (method_fits k N e).1 }
