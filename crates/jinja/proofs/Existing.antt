-- The types of fields, parameters and results exist, and overriding methods take and give what inherited ones do. Assumes nothing.
use Rattle.std.proofs.Common.{◌≡◌, ℕ, zero, suc, true, List, [], ◌∷◌, Some, refl, ap, subst}
use Rattle.std.specs.List.{slice_get, AllByRecursion}
use Rattle.std.proofs.ByRecursion.{All-append}
use Rattle.jinja.specs.declared.ty.Ty.{Ty}
use Rattle.jinja.specs.declared.program.Field.{Field}
use Rattle.jinja.specs.declared.program.FieldPlace.{FieldPlace}
use Rattle.jinja.specs.Program.{MethodDecl, Program}
use Rattle.jinja.specs.Classes.{superclass_of}
use Rattle.jinja.specs.Lookups.{position, own_fields, fields_within, fields_of, own_field, overrides}
use Rattle.jinja.specs.WellFormed.{TypeExists, WellFormed}
use Rattle.jinja.specs.Order.{Le, LeAll}
use Rattle.jinja.proofs.Options.{some_inj, maybe_found}
use Rattle.jinja.proofs.Inheritance.{overrides_params, overrides_result}
use Rattle.jinja.proofs.Order.{le_refl}

pub all_from_nth : {A : Type 0} (Q : A → Type 0) (xs : List A) → ((i : ℕ) (a : A) → slice_get xs i ≡ Some a → Q a) → AllByRecursion Q xs
all_from_nth Q [] f = tt
all_from_nth Q (x ∷ xs) f = (f 0 x refl, all_from_nth Q xs (λ i a e. f (suc i) a e))

module _ {P : Program} (w : WellFormed P) where
  pub own_field_exists : {x : FieldPlace} (c f : ℕ) → own_field P c f ≡ Some x → TypeExists P x.ty
  unfolding own_field
  own_field_exists {x} c f e =
      let a = maybe_found (position (λ (x : Field). x.name) f (own_fields P c)) _ e in
      let b = maybe_found (slice_get (own_fields P c) a.0) _ a.2 in
      subst (TypeExists P) (ap (λ (y : FieldPlace). y.ty) (some_inj b.2)) (w.field_types c a.0 b.1)

  own_fields_exist : (c : ℕ) → AllByRecursion (λ (f : Field). TypeExists P f.ty) (own_fields P c)
  own_fields_exist c = all_from_nth _ (own_fields P c) (λ i f e. w.field_types c i e)

  within_exist : (k c : ℕ) → AllByRecursion (λ (f : Field). TypeExists P f.ty) (fields_within P k c)
  within_exist zero c = own_fields_exist c
  within_exist (suc k) c = All-append _ (fields_within P k (superclass_of P c)) (own_fields P c) (within_exist k (superclass_of P c)) (own_fields_exist c)

  pub fields_exist : (c : ℕ) → AllByRecursion (λ (f : Field). TypeExists P f.ty) (fields_of P c)
  unfolding fields_of
  fields_exist c = within_exist c c

module _ {P : Program} where
  pub overrides_takes : (l m : MethodDecl) {ts : List Ty} → overrides l m ≡ true → LeAll P ts m.params → LeAll P ts l.params
  overrides_takes l m e a = rw (overrides_params l m e) a

  pub overrides_gives : (l m : MethodDecl) → overrides l m ≡ true → TypeExists P m.result → Le P l.result m.result
  overrides_gives l m e x = rw (overrides_result l m e) (le_refl _ x)
