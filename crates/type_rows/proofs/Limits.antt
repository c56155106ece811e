-- A method of a program that keeps the rules keeps its limits. Assumes nothing.
use Rattle.std.proofs.Common.{◌≡◌, ℕ, zero, suc, ◌+◌, ◌<◌, ◌≤◌, true, [], length, Some, None, Option, sym, refl, ap, ◌∙◌, ⊎_elim}
use Rattle.std.specs.List.{slice_get}
use Rattle.std.proofs.lemmas.Bool.{leb-true, cases_lt}
use Rattle.jinja.specs.Program.{MethodDecl, ClassDecl, Program}
use Rattle.jinja.specs.Classes.{maybe, table}
use Rattle.jinja.specs.Lookups.{Owned, method_at}
use Rattle.jinja.proofs.Options.{conflict, some_inj}
use Rattle.format.specs.Limits.{max_height, max_registers, max_code}
use Rattle.format.specs.Rules.{keeps}
use Rattle.format.proofs.Kept.{code_fits, kept_method_at}
use Rattle.format.proofs.Found.{method_of_class}
use Rattle.tables.specs.declared.records.MethodRec.{MethodRec}
use Rattle.tables.specs.declared.tables.Tables.{Tables}
use Rattle.tables.specs.Views.{methods_of, params_of, instrs_of, handlers_of, method_view, program_of}
use Rattle.tables.specs.Methods.{Stands, Whole, unowned}
use Rattle.tables.proofs.Owners.{methods_numbered}
use Rattle.tables.proofs.Spans.{length_part}
use Rattle.tables.proofs.Standing.{method_lacks}
use Rattle.type_rows.specs.Methods.{no_method, the_method}

pub record Limited (m : MethodDecl) : Type 0 where
  pub code : length m.code ≤ max_code
  pub height : m.height ≤ max_height
  pub registers : 1 + length m.params + m.extras ≤ max_registers

-- the built-in classes declare nothing, so a method belongs to an own class
module _ (P : Program) (kept : keeps P ≡ true) where
  limited_in : (c j : ℕ) {m : MethodDecl} → maybe (slice_get (table P) c) None (λ d. slice_get d.methods j) ≡ Some m → Limited m
  limited_in zero j e = absurd (conflict e)
  limited_in (suc zero) j e = absurd (conflict e)
  limited_in (suc (suc zero)) j e = absurd (conflict e)
  limited_in (suc (suc (suc zero))) j e = absurd (conflict e)
  limited_in (suc (suc (suc (suc i)))) j {m} e = go (slice_get P i) refl e
    where
      go : (o : Option ClassDecl) → slice_get P i ≡ o → maybe o None (λ d. slice_get d.methods j) ≡ Some m → Limited m
      go None q e = absurd (conflict e)
      go (Some d) q e =
          let keeps_it = kept_method_at P kept i j q e in
          record { code = (code_fits _ (length m.code) keeps_it.code_fits).1; height = leb-true _ _ keeps_it.height; registers = leb-true _ _ keeps_it.registers }

  pub method_limited : (k : ℕ) {N : Owned} → method_at P k ≡ Some N → Limited N.method
  unfolding method_at
  method_limited k {N} e = let w = method_of_class 0 k (table P) e in limited_in w.0 w.2 (rw w.3 w.4)

owned_as : (o : Option Owned) (d : MethodDecl) → unowned o ≡ Some d → (o ≡ Some (maybe o no_method (λ m. m))) × ((maybe o no_method (λ m. m)).method ≡ d)
owned_as None d e = absurd (conflict e)
owned_as (Some N) d e = (refl, some_inj e)

-- the record of a method and the method of the program
module _ (t : Tables) (k : ℕ) (r : MethodRec) (whole : Whole t) (s : Stands t k r) where
  pub record_method : (the_method (program_of t) k).method ≡ method_view (params_of t) (instrs_of t) (handlers_of t) r
  record_method = (owned_as (method_at (program_of t) k) _ (methods_numbered t k whole ∙ s.method)).1

  pub record_at : method_at (program_of t) k ≡ Some (the_method (program_of t) k)
  record_at = (owned_as (method_at (program_of t) k) _ (methods_numbered t k whole ∙ s.method)).0

  pub record_there : k < length (methods_of t)
  record_there = ⊎_elim (λ (l : k < length (methods_of t)). l) (λ (l : length (methods_of t) ≤ k). absurd (conflict (sym (method_lacks t k l).method ∙ s.method))) (cases_lt k (length (methods_of t)))

  pub record_params : r.params.count ≡ length (the_method (program_of t) k).method.params
  record_params =
      sym (length_part r.params (params_of t) s.params.within) ∙ ap length s.params.items
      ∙ ap (λ (o : Option MethodDecl). length (maybe o [] (λ m. m.params))) s.method ∙ sym (ap (λ (m : MethodDecl). length m.params) record_method)
