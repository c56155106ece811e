-- Counts that are tested before their items are read.
use Rattle.std.proofs.Common.{◌≡◌, ℕ, ◌+◌, Bool, true, false, leb, List, [], length, Ok, Err, refl, ap, ◌∙◌}
use Rattle.jinja.specs.Program.{Program}
use Rattle.jinja.specs.Lookups.{fields_of, count_methods}
use Rattle.format.specs.Limits.{max_fields, max_methods}
use Rattle.format.specs.Reading.{Read, then, checked, counted, any_at}
use Rattle.format.specs.Parse.{field_at, fields_at, method_at, methods_at}
use Rattle.format.specs.declared.fault.TableFault.{TableFault}
use Rattle.format.specs.declared.fault.TableFault.TheVariants.{Outside}
use Rattle.set.specs.Counts.{more_at}

-- a test of what was read may stand with it or with what follows
then_checked : {B : Type 0} (x : Read ℕ) (test : ℕ → Bool) (e : TableFault) (f : ℕ → ℕ → Read B) →
    then x (λ k q. checked (test k) e (f k q)) ≡ then (then x (λ k q. checked (test k) e (Ok (k, q)))) f
then_checked (Ok r) test e f =
    let Goal : Bool → Type 0 = λ b. checked b e (f r.0 r.1) ≡ then (checked b e (Ok (r.0, r.1))) f in
    let go : (b : Bool) → Goal b = λ b. elim b as Goal [ true ↦ refl | false ↦ refl ] in
    go (test r.0)
then_checked (Err g) test e f = refl

module _ (file : List ℕ) (n : ℕ) (before : Program) (s p used : ℕ) where
  pub methods_counted : count_methods before ≡ used → methods_at file n before s p ≡ then (more_at file used max_methods p) (λ k q. counted (method_at file n before s) k [] q)
  methods_counted e =
      ap (λ u. then (any_at file p) (λ k q. checked (leb (u + k) max_methods) (Outside p) (counted (method_at file n before s) k [] q))) e
      ∙ then_checked (any_at file p) (λ k. leb (used + k) max_methods) (Outside p) (λ k q. counted (method_at file n before s) k [] q)

  pub fields_counted : length (fields_of before s) ≡ used → fields_at file n before s p ≡ then (more_at file used max_fields p) (λ k q. counted (field_at file n) k [] q)
  fields_counted e =
      ap (λ u. then (any_at file p) (λ k q. checked (leb (u + k) max_fields) (Outside p) (counted (field_at file n) k [] q))) e
      ∙ then_checked (any_at file p) (λ k. leb (used + k) max_fields) (Outside p) (λ k q. counted (field_at file n) k [] q)
