-- Numbers as a file's items are made of them: any number, those with a limit, names and types.
use Rattle.std.proofs.Common.{◌≡◌, ℕ, zero, suc, ◌+◌, ◌<◌, true, ltb, leb, List, drop, Ok, Err, Result, sym, refl, ap, ◌∙◌, subst, arith}
use Rattle.std.proofs.lemmas.Bool.{leb-true, ltb-true}
use Rattle.std.proofs.lemmas.Bool.Decides.{nat_tests}
use Rattle.number.specs.Laws.{AllBytes}
use Rattle.number.specs.Numbers.{number_limit, bytes}
use Rattle.number.specs.declared.fault.NumberFault.{NumberFault}
use Rattle.number.proofs.Law.{number_reads, read as number_wrote}
use Rattle.jinja.specs.declared.ty.Ty.{Ty}
use Rattle.jinja.specs.declared.ty.Ty.TheVariants.{Void, Boolean, Integer, NullType, Class}
use Rattle.jinja.specs.Types.{type_number, type_of_number, type_exists}
use Rattle.format.specs.Limits.{max_name}
use Rattle.format.specs.Encode.{type_bytes}
use Rattle.format.specs.Reading.{lifted, any_at, at_most}
use Rattle.format.specs.Rules.{unused}
use Rattle.format.specs.Parse.{type_at, name_at}
use Rattle.format.proofs.Steps.{Stands, given, then_ok, then_from, checked_ok, checked_from}

lifted_ok : {A : Type 0} (x : Result A NumberFault) (a : A) → lifted x ≡ Ok a → x ≡ Ok a
lifted_ok (Ok r) a e = cc
lifted_ok (Err f) a e = cc

number_of_type : (t : Ty) → type_of_number (type_number t) ≡ t
number_of_type Void = refl
number_of_type Boolean = refl
number_of_type Integer = refl
number_of_type NullType = refl
number_of_type (Class c) = let e : 4 + c ≡ suc (suc (suc (suc c))) = omega arith in rw e refl

type_of_its_number : (n : ℕ) → type_number (type_of_number n) ≡ n
type_of_its_number zero = refl
type_of_its_number (suc zero) = refl
type_of_its_number (suc (suc zero)) = refl
type_of_its_number (suc (suc (suc zero))) = refl
type_of_its_number (suc (suc (suc (suc c)))) = omega arith

-- a type exists where its number is below those of all classes
pub type_below : (n : ℕ) (t : Ty) → ltb (type_number t) (4 + n) ≡ type_exists n t
type_below n Void = grind (arith, nat_tests)
type_below n Boolean = grind (arith, nat_tests)
type_below n Integer = grind (arith, nat_tests)
type_below n NullType = grind (arith, nat_tests)
type_below n (Class c) = grind (arith, nat_tests)

module _ (file : List ℕ) where
  pub any_reads : (p q n : ℕ) → n < number_limit → Stands file p q (bytes n) → any_at file p ≡ Ok (n, q)
  any_reads p q n h s = ap lifted (number_reads file p n (drop q file) h s.0 ∙ ap (λ z. Ok (n, z)) (sym s.1))

  pub at_most_reads : (most p q n : ℕ) → most < number_limit → leb n most ≡ true → Stands file p q (bytes n) → at_most file most p ≡ Ok (n, q)
  at_most_reads most p q n l h s =
      then_from (any_at file p) _ n q _ (any_reads p q n (omega (arith, leb-true n most h)) s) (checked_from (leb n most) _ _ _ h refl)

  pub name_reads : {A : Type 0} (name : A → ℕ) (mine : List A) (p q n : ℕ) → leb n max_name ≡ true → unused name n mine ≡ true → Stands file p q (bytes n) → name_at file name mine p ≡ Ok (n, q)
  name_reads name mine p q n h u s =
      then_from (at_most file max_name p) _ n q _ (at_most_reads max_name p q n (omega arith) h s) (checked_from (unused name n mine) _ _ _ u refl)

  pub type_reads : (n p q : ℕ) (t : Ty) → 4 + n < number_limit → type_exists n t ≡ true → Stands file p q (type_bytes t) → type_at file n p ≡ Ok (t, q)
  type_reads n p q t l h s =
      let k : ltb (type_number t) (4 + n) ≡ true = type_below n t ∙ h in
      then_from (any_at file p) _ (type_number t) q _ (any_reads p q (type_number t) (omega (arith, ltb-true (type_number t) (4 + n) k)) s)
      (checked_from (ltb (type_number t) (4 + n)) _ _ _ k (ap (λ u. Ok (u, q)) (number_of_type t)))

  module _ (small : AllBytes file) where
    pub any_wrote : (p q n : ℕ) → any_at file p ≡ Ok (n, q) → (n < number_limit) × Stands file p q (bytes n)
    any_wrote p q n e = let w = number_wrote file p n q small (lifted_ok _ _ e) in (w.0, (w.1, w.2))

    pub at_most_wrote : (most p q n : ℕ) → at_most file most p ≡ Ok (n, q) → (leb n most ≡ true) × Stands file p q (bytes n)
    at_most_wrote most p q n e =
        let w = then_ok (any_at file p) _ n q e in
        let v = checked_ok _ _ _ _ w.3 in
        given (λ n q. (leb n most ≡ true) × Stands file p q (bytes n)) w.0 n w.1 q v.1 (v.0, (any_wrote p w.1 w.0 w.2).1)

    pub name_wrote : {A : Type 0} (name : A → ℕ) (mine : List A) (p q n : ℕ) → name_at file name mine p ≡ Ok (n, q) → (leb n max_name ≡ true) × (unused name n mine ≡ true) × Stands file p q (bytes n)
    name_wrote name mine p q n e =
        let w = then_ok (at_most file max_name p) _ n q e in
        let v = checked_ok _ _ _ _ w.3 in
        let u = at_most_wrote max_name p w.1 w.0 w.2 in
        given (λ n q. (leb n max_name ≡ true) × (unused name n mine ≡ true) × Stands file p q (bytes n)) w.0 n w.1 q v.1 (u.0, v.0, u.1)

    pub type_wrote : (n p q : ℕ) (t : Ty) → type_at file n p ≡ Ok (t, q) → (type_exists n t ≡ true) × Stands file p q (type_bytes t)
    type_wrote n p q t e =
        let w = then_ok (any_at file p) _ t q e in
        let v = checked_ok _ _ _ _ w.3 in
        let same = type_of_its_number w.0 in
        given (λ t q. (type_exists n t ≡ true) × Stands file p q (type_bytes t)) (type_of_number w.0) t w.1 q v.1
        (sym (type_below n (type_of_number w.0)) ∙ (ap (λ k. ltb k (4 + n)) same ∙ v.0), subst (λ k. Stands file p w.1 (bytes k)) (sym same) (any_wrote p w.1 w.0 w.2).1)
