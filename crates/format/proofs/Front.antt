-- The first classes of a program look up the same without those behind them.
use Rattle.std.proofs.Common.{◌≡◌, ℕ, zero, suc, ◌<◌, ◌≤◌, List, [], ◌++◌, length, take, drop, Some, None, sym, refl, ap, ◌∙◌, subst, arith}
use Rattle.std.specs.List.{slice_get}
use Rattle.std.proofs.lemmas.List.{take-append-drop, take-append-le}
use Rattle.jinja.specs.declared.program.Field.{Field}
use Rattle.jinja.specs.Program.{ClassDecl, Program}
use Rattle.jinja.specs.Classes.{maybe, table, class_at, superclass_of}
use Rattle.jinja.specs.Lookups.{own_fields, own_methods, fields_within, Owned, methods_from, method_at, own_method, sees_within}
use Rattle.format.proofs.Found.{nth_in_front, methods_front}

-- a superclass has a smaller number
abbrev pub Falls : Program → Type 0
Falls P = (c : ℕ) → superclass_of P (suc c) < suc c

-- Object has no fields and no methods, at any bound
pub no_fields : (Q : Program) (k : ℕ) → fields_within Q k 0 ≡ []
unfolding superclass_of
no_fields Q zero = refl
no_fields Q (suc k) = ap (λ (fs : List Field). fs ++ []) (no_fields Q k)

no_methods : (m : ℕ) (Q : Program) (k : ℕ) → sees_within Q k 0 m ≡ None
unfolding superclass_of own_method
no_methods m Q zero = refl
no_methods m Q (suc k) = no_methods m Q k

-- the first i classes of P, and a class c of them
module _ (P : Program) (i : ℕ) where
  abbrev front : Program
  front = take i P

  whole : front ++ drop i P ≡ P
  whole = take-append-drop i P

  class_front : (c : ℕ) → c < length (table front) → class_at P c ≡ class_at front c
  class_front c l = ap (λ Q. class_at Q c) (sym whole) ∙ nth_in_front (table front) (drop i P) c l

  super_front : (c : ℕ) → c < length (table front) → superclass_of P c ≡ superclass_of front c
  unfolding superclass_of
  super_front c l = ap (λ o. maybe o 0 (λ (d : ClassDecl). d.superclass)) (class_front c l)

  own_fields_front : (c : ℕ) → c < length (table front) → own_fields P c ≡ own_fields front c
  own_fields_front c l = ap (λ o. maybe o [] (λ (d : ClassDecl). d.fields)) (class_front c l)

  own_method_front : (c m : ℕ) → c < length (table front) → own_method P c m ≡ own_method front c m
  unfolding own_method
  own_method_front c m l =
      let methods : own_methods P c ≡ own_methods front c = ap (λ o. maybe o [] (λ (d : ClassDecl). d.methods)) (class_front c l) in
      let before : take c (table P) ≡ take c (table front) = ap (λ Q. take c (table Q)) (sym whole) ∙ take-append-le c (table front) (drop i P) (omega arith) in
      rw (methods, before) refl

  pub method_front : (k : ℕ) {N : Owned} → method_at front k ≡ Some N → method_at P k ≡ Some N
  unfolding method_at
  method_front k {N} e = subst (λ Q. slice_get (methods_from 0 (table Q)) k ≡ Some N) whole (methods_front 0 k (table front) (drop i P) e)

  -- a search upward with a bound, F k c, that says z at Object
  module _ {A : Type 0} (F : Program → ℕ → ℕ → A) (g : Program → ℕ → A → A) (z : A) (more : (Q : Program) (k c : ℕ) → F Q (suc k) c ≡ g Q c (F Q k (superclass_of Q c)))
      (root : (Q : Program) (k : ℕ) → F Q k 0 ≡ z) (same : (c : ℕ) → c < length (table front) → (x : A) → g P c x ≡ g front c x) (falls : Falls P) where
    climb_front : (j k c : ℕ) → c ≤ j → c ≤ k → c < length (table front) → F P j c ≡ F front k c
    climb_front j k zero a b l = root P j ∙ sym (root front k)
    climb_front zero k (suc c) a b l = absurd (omega arith)
    climb_front (suc j) zero (suc c) a b l = absurd (omega arith)
    climb_front (suc j) (suc k) (suc c) a b l =
        let f = falls c in
        let s = super_front (suc c) l in
        let up : F P j (superclass_of P (suc c)) ≡ F front k (superclass_of front (suc c)) = climb_front j k (superclass_of P (suc c)) (omega arith) (omega arith) (omega arith) ∙ ap (F front k) s in
        more P j (suc c) ∙ (ap (g P (suc c)) up ∙ (same (suc c) l _ ∙ sym (more front k (suc c))))

  module _ (falls : Falls P) (j k c : ℕ) (a : c ≤ j) (b : c ≤ k) (l : c < length (table front)) where
    pub fields_front : fields_within P j c ≡ fields_within front k c
    fields_front = climb_front fields_within (λ Q c x. x ++ own_fields Q c) [] (λ Q k c. refl) no_fields (λ c l x. ap (λ fs. x ++ fs) (own_fields_front c l)) falls j k c a b l

    pub sees_front : (m : ℕ) → sees_within P j c m ≡ sees_within front k c m
    sees_front m =
        climb_front (λ Q k c. sees_within Q k c m) (λ Q c x. maybe (own_method Q c m) x (λ i. Some i)) None (λ Q k c. refl) (no_methods m)
        (λ c l x. ap (λ o. maybe o x (λ i. Some i)) (own_method_front c m l)) falls j k c a b l
