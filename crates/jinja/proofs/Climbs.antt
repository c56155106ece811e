-- The order of classes: a climb with enough steps decides it. Assumes nothing.
use Rattle.std.proofs.Common.{◌≡◌, ℕ, zero, suc, ◌<◌, ◌≤◌, Bool, true, false, cond, eqb, sym, refl, ap, ◌∙◌, subst, ⊎_elim, arith}
use Rattle.std.proofs.lemmas.Bool.{lt-ltb, ltb-true, eq-eqb, eqb-true, cases_lt, and_parts, and_from}
use Rattle.jinja.specs.Program.{Program}
use Rattle.jinja.specs.Classes.{IsClass, superclass_of, AtOrBelow, here, up, climbs, at_or_below}
use Rattle.jinja.specs.ClassLaws.{ClassOrderHolds}
use Rattle.jinja.specs.WellFormed.{WellFormed}

pub object_root : (P : Program) → superclass_of P 0 ≡ 0
unfolding superclass_of
object_root P = refl

pub built_in_class : (P : Program) (c : ℕ) → c < 4 → IsClass P c
built_in_class P c l = omega arith

-- where c is a class
pub lower_exists : {P : Program} {c d : ℕ} → AtOrBelow P c d → IsClass P c
lower_exists (here i) = i
lower_exists (up i s) = i

pub upper_exists : {P : Program} {c d : ℕ} → AtOrBelow P c d → IsClass P d
upper_exists (here i) = i
upper_exists (up i s) = upper_exists s

pub below_trans : {P : Program} {a b c : ℕ} → AtOrBelow P a b → AtOrBelow P b c → AtOrBelow P a c
below_trans (here i) s = s
below_trans (up i r) s = up i (below_trans r s)

module _ {P : Program} (w : WellFormed P) where
  pub falls_to : (c k : ℕ) → c ≤ suc k → superclass_of P c ≤ k
  falls_to zero k l = let e = object_root P in omega arith
  falls_to (suc c) k l = let e = w.smaller c in omega arith

  pub super_exists : (c : ℕ) → IsClass P c → IsClass P (superclass_of P c)
  super_exists zero i = rw (object_root P) i
  super_exists (suc c) i = let e = w.smaller c in omega arith

  -- a search upward with a bound, F k c, is the same at every bound from c on
  module _ {A : Type 0} (F : ℕ → ℕ → A) (g : ℕ → A → A) (more : (k c : ℕ) → F (suc k) c ≡ g c (F k (superclass_of P c))) (root : F 1 0 ≡ F 0 0) where
    one_more : (k c : ℕ) → c ≤ k → F (suc k) c ≡ F k c
    one_more zero c l = let e : c ≡ 0 = omega arith in rw e root
    one_more (suc k) c l = more (suc k) c ∙ ap (g c) (one_more k (superclass_of P c) (falls_to c k l)) ∙ sym (more k c)

    enough : (k c : ℕ) → c ≤ k → F k c ≡ F c c
    enough zero c l = let e : c ≡ 0 = omega arith in rw e
    enough (suc k) c l = ⊎_elim (λ h. one_more k c (omega arith) ∙ enough k c (omega arith)) (λ h. let e : c ≡ suc k = omega arith in rw e) (cases_lt c (suc k))

    pub climb : (c : ℕ) → F (suc c) (suc c) ≡ g (suc c) (F (superclass_of P (suc c)) (superclass_of P (suc c)))
    climb c = more c (suc c) ∙ ap (g (suc c)) (enough c _ (falls_to (suc c) c (omega arith)))

  -- a class above has no greater number
  pub upper_smaller : {c d : ℕ} → AtOrBelow P c d → d ≤ c
  upper_smaller (here i) = omega arith
  upper_smaller {c = zero} (up i s) = let l = upper_smaller s in let e = object_root P in omega arith
  upper_smaller {c = suc c} (up i s) = let l = upper_smaller s in let e = w.smaller c in omega arith

  pub below_antisym : {a b : ℕ} → AtOrBelow P a b → AtOrBelow P b a → a ≡ b
  below_antisym r s = let x = upper_smaller r in let y = upper_smaller s in omega arith

  below_object : (k c : ℕ) → c ≤ k → IsClass P c → AtOrBelow P c 0
  below_object k zero l i = here i
  below_object zero (suc c) l i = absurd (omega arith)
  below_object (suc k) (suc c) l i = up i (below_object k _ (falls_to (suc c) k l) (super_exists (suc c) i))

  pub object_top : (c : ℕ) → IsClass P c → AtOrBelow P c 0
  object_top c i = below_object c c (omega arith) i

  or_true : (b x : Bool) → x ≡ true → cond b true x ≡ true
  or_true true x e = refl
  or_true false x e = e

  climbs_to : (k : ℕ) {c d : ℕ} → c ≤ k → AtOrBelow P c d → climbs P k c d ≡ true
  climbs_to zero {c} l (here i) = eq-eqb c c refl
  climbs_to (suc k) {c} l (here i) = rw (eq-eqb c c refl)
  climbs_to zero {c} l (up i s) =
      let e : c ≡ 0 = omega arith in let r : superclass_of P c ≡ c = ap (superclass_of P) e ∙ object_root P ∙ sym e in rw r at (climbs_to zero (falls_to c 0 (omega arith)) s)
  climbs_to (suc k) {c} l (up i s) = or_true _ _ (climbs_to k (falls_to c k l) s)

  pub below_tested : {c d : ℕ} → AtOrBelow P c d → at_or_below P c d ≡ true
  unfolding at_or_below
  below_tested {c} s = and_from _ _ (lt-ltb _ _ (lower_exists s)) (climbs_to c (omega arith) s)

  climbed : (k c d : ℕ) → IsClass P c → climbs P k c d ≡ true → AtOrBelow P c d
  climbed zero c d i e = subst (AtOrBelow P c) (eqb-true c d e) (here i)
  climbed (suc k) c d i e = go (eqb c d) refl e (climbed k (superclass_of P c) d (super_exists c i))
    where
      go : (b : Bool) → eqb c d ≡ b → cond b true (climbs P k (superclass_of P c) d) ≡ true → (climbs P k (superclass_of P c) d ≡ true → AtOrBelow P (superclass_of P c) d) → AtOrBelow P c d
      go true q e ih = subst (AtOrBelow P c) (eqb-true c d q) (here i)
      go false q e ih = up i (ih e)

  pub below_found : {c d : ℕ} → at_or_below P c d ≡ true → AtOrBelow P c d
  unfolding at_or_below
  below_found {c} {d} e = let p = and_parts _ _ e in climbed c c d (ltb-true _ _ p.0) p.1

pub class_order : ClassOrderHolds
class_order P w = record {
  reflexive = here;
  transitive = below_trans;
  antisymmetric = below_antisym w;
  object_on_top = object_top w;
  tested = below_tested w;
  found = below_found w;
}
