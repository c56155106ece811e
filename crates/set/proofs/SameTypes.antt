-- Types are equal, one by one, where their numbers are.
use Rattle.std.proofs.Common.{◌≡◌, ℕ, ◌+◌, ◌&&◌, eqb, List, [], ◌∷◌, true≢false, sym, refl, ap₂, ◌∙◌, inl, inr, arith}
use Rattle.std.proofs.lemmas.Bool.{cases_Bool, eq-eqb, ne_eqb, eqb-true}
use Rattle.std.specs.Cmp.Lexicographic.{pointwise}
use Rattle.jinja.specs.declared.ty.Ty.{Ty}
use Rattle.jinja.specs.declared.ty.Ty.TheVariants.{Void, Boolean, Integer, NullType, Class}
use Rattle.jinja.specs.Types.{same_type, same_types}
use Rattle.jinja.specs.contracts.ty.TyPartialEq.TheImpl.{eq-value}

same_class : (c d : ℕ) → eqb c d ≡ eqb (4 + c) (4 + d)
same_class c d =
    elim (cases_Bool (eqb c d)) [
      | inl t ↦ t ∙ sym (eq-eqb (4 + c) (4 + d) (omega (arith, eqb-true c d t)))
      | inr f ↦ f ∙ sym (ne_eqb (4 + c) (4 + d) (λ e. true≢false (sym (eq-eqb c d (omega arith)) ∙ f)))
    ]

pub same_ty : (t u : Ty) → (eq-value).it t u ≡ same_type t u
same_ty Void Void = refl
same_ty Void Boolean = refl
same_ty Void Integer = refl
same_ty Void NullType = refl
same_ty Void (Class d) = sym (ne_eqb 0 (4 + d) (λ e. omega arith))
same_ty Boolean Void = refl
same_ty Boolean Boolean = refl
same_ty Boolean Integer = refl
same_ty Boolean NullType = refl
same_ty Boolean (Class d) = sym (ne_eqb 1 (4 + d) (λ e. omega arith))
same_ty Integer Void = refl
same_ty Integer Boolean = refl
same_ty Integer Integer = refl
same_ty Integer NullType = refl
same_ty Integer (Class d) = sym (ne_eqb 2 (4 + d) (λ e. omega arith))
same_ty NullType Void = refl
same_ty NullType Boolean = refl
same_ty NullType Integer = refl
same_ty NullType NullType = refl
same_ty NullType (Class d) = sym (ne_eqb 3 (4 + d) (λ e. omega arith))
same_ty (Class c) Void = sym (ne_eqb (4 + c) 0 (λ e. omega arith))
same_ty (Class c) Boolean = sym (ne_eqb (4 + c) 1 (λ e. omega arith))
same_ty (Class c) Integer = sym (ne_eqb (4 + c) 2 (λ e. omega arith))
same_ty (Class c) NullType = sym (ne_eqb (4 + c) 3 (λ e. omega arith))
same_ty (Class c) (Class d) = same_class c d

pub same_tys : (ts us : List Ty) → pointwise (eq-value).it ts us ≡ same_types ts us
same_tys [] [] = refl
same_tys [] (u ∷ us) = refl
same_tys (t ∷ ts) [] = refl
same_tys (t ∷ ts) (u ∷ us) = ap₂ ◌&&◌ (same_ty t u) (same_tys ts us)
