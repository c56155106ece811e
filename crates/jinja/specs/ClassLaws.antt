-- What holds of the class table of every program that keeps the rules. Assumes nothing.
use Rattle.std.specs.Prelude.{◌≡◌, ℕ, true, Some}
use Rattle.std.specs.List.{slice_get}
use Rattle.jinja.specs.declared.program.Field.{Field}
use Rattle.jinja.specs.declared.program.FieldPlace.{FieldPlace}
use Rattle.jinja.specs.Program.{Program}
use Rattle.jinja.specs.Classes.{IsClass, AtOrBelow, at_or_below}
use Rattle.jinja.specs.Lookups.{Owned, own_field, fields_of, method_at, sees, overrides}
use Rattle.jinja.specs.WellFormed.{WellFormed}

-- at-or-below is a partial order of the classes, with Object on top, and the climb decides it
pub record ClassOrder (P : Program) : Type 0 where
  pub reflexive : {c : ℕ} → IsClass P c → AtOrBelow P c c
  pub transitive : {a b c : ℕ} → AtOrBelow P a b → AtOrBelow P b c → AtOrBelow P a c
  pub antisymmetric : {a b : ℕ} → AtOrBelow P a b → AtOrBelow P b a → a ≡ b
  pub object_on_top : (c : ℕ) → IsClass P c → AtOrBelow P c 0
  pub tested : {c d : ℕ} → AtOrBelow P c d → at_or_below P c d ≡ true
  pub found : {c d : ℕ} → at_or_below P c d ≡ true → AtOrBelow P c d

-- the method that a class sees where a class above it sees N
pub record StandsIn (P : Program) (c m : ℕ) (N : Owned) : Type 0 where
  pub number : ℕ
  pub owned : Owned
  pub seen : sees P c m ≡ Some number
  pub stands : method_at P number ≡ Some owned
  pub related : overrides owned.method N.method ≡ true

-- a class has what the classes above it have
pub record Inheritance (P : Program) : Type 0 where
  -- a field at the place that it has above
  pub fields : {c d : ℕ} {f : Field} (i : ℕ) → AtOrBelow P c d → slice_get (fields_of P d) i ≡ Some f → slice_get (fields_of P c) i ≡ Some f
  pub own_place : {x : FieldPlace} (c f : ℕ) → own_field P c f ≡ Some x → (g : Field) × (slice_get (fields_of P c) x.place ≡ Some g) × (g.ty ≡ x.ty)
  -- a method of each name that is seen above
  pub methods : {c d k : ℕ} {N : Owned} (m : ℕ) → AtOrBelow P c d → sees P d m ≡ Some k → method_at P k ≡ Some N → StandsIn P c m N
  -- what is seen is declared by the class or above it
  pub seen_above : {c k : ℕ} (m : ℕ) → sees P c m ≡ Some k → (N : Owned) × (method_at P k ≡ Some N) × AtOrBelow P c N.owner

abbrev pub ClassOrderHolds : Type 0
ClassOrderHolds = (P : Program) → WellFormed P → ClassOrder P

abbrev pub ClassInheritance : Type 0
ClassInheritance = (P : Program) → WellFormed P → Inheritance P
