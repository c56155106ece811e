-- The way up from a class, step by step: where it ends and where it goes on.
use Rattle.std.proofs.Common.{◌≡◌, ℕ, zero, suc, ◌-◌, ◌<◌, ◌≤◌, Bool, true, false, cond, eqb, ◌++◌, length, is_some, Some, None, Option, sym, refl, ap, ◌∙◌, arith}
use Rattle.std.proofs.lemmas.List.{length-append}
use Rattle.std.proofs.lemmas.Bool.{eq-eqb, ne_eqb}
use Rattle.jinja.specs.Program.{Program}
use Rattle.jinja.specs.Classes.{maybe, superclass_of, climbs}
use Rattle.jinja.specs.Lookups.{own_method, sees_within, own_fields, fields_within}

cond_same : (b : Bool) → cond b true b ≡ b
cond_same true = refl
cond_same false = refl

maybe_here : (o p : Option ℕ) → is_some o ≡ true → maybe o p (λ i. Some i) ≡ o
maybe_here None p h = absurd (let z : ◌≡◌ {A = ℕ} 0 1 = cc in omega arith)
maybe_here (Some i) p h = refl

maybe_on : (o p : Option ℕ) → is_some o ≡ false → maybe o p (λ i. Some i) ≡ p
maybe_on None p h = refl
maybe_on (Some i) p h = absurd (let z : ◌≡◌ {A = ℕ} 0 1 = cc in omega arith)

maybe_same : (o : Option ℕ) → maybe o o (λ i. Some i) ≡ o
maybe_same None = refl
maybe_same (Some i) = refl

module _ (P : Program) where
  pub object_tops : superclass_of P 0 ≡ 0
  unfolding superclass_of
  object_tops = refl

  -- the test of a way that ends
  pub climbs_here : (k c d : ℕ) → c ≡ d → climbs P k c d ≡ eqb c d
  climbs_here zero c d e = refl
  climbs_here (suc k) c d e = rw (eq-eqb c d e) refl

  climbs_top : (k d : ℕ) → climbs P k 0 d ≡ eqb 0 d
  climbs_top zero d = refl
  climbs_top (suc k) d = rw (object_tops, climbs_top k d) (cond_same (eqb 0 d))

  pub climbs_object : (k c d : ℕ) → c ≡ 0 → climbs P k c d ≡ eqb c d
  climbs_object k c d e = rw e (climbs_top k d)

  pub climbs_last : (k c d : ℕ) → k ≤ 0 → climbs P k c d ≡ eqb c d
  climbs_last zero c d h = refl
  climbs_last (suc k) c d h = absurd (omega arith)

  pub climbs_on : (k c d : ℕ) → (c ≡ d → ⊥) → 0 < k → climbs P k c d ≡ climbs P (k - 1) (superclass_of P c) d
  climbs_on zero c d e h = absurd (omega arith)
  climbs_on (suc k) c d e h = let i : k ≡ suc k - 1 = omega arith in rw (ne_eqb c d e) (ap (λ j. climbs P j (superclass_of P c) d) i)

  -- the method seen, o being the one that the class declares itself
  pub sees_here : (k c m : ℕ) (o : Option ℕ) → o ≡ own_method P c m → is_some o ≡ true → sees_within P k c m ≡ o
  sees_here zero c m o e h = sym e
  sees_here (suc k) c m o e h = rw (sym e) (maybe_here o (sees_within P k (superclass_of P c) m) h)

  sees_top : (k m : ℕ) → sees_within P k 0 m ≡ own_method P 0 m
  sees_top zero m = refl
  sees_top (suc k) m = rw (object_tops, sees_top k m) (maybe_same (own_method P 0 m))

  pub sees_object : (k c m : ℕ) (o : Option ℕ) → o ≡ own_method P c m → c ≡ 0 → sees_within P k c m ≡ o
  sees_object k c m o e h = rw (e, h) (sees_top k m)

  pub sees_last : (k c m : ℕ) (o : Option ℕ) → o ≡ own_method P c m → k ≡ 0 → sees_within P k c m ≡ o
  sees_last k c m o e h = rw (e, h) refl

  pub sees_on : (k c m : ℕ) (o : Option ℕ) → o ≡ own_method P c m → is_some o ≡ false → 0 < k → sees_within P k c m ≡ sees_within P (k - 1) (superclass_of P c) m
  sees_on zero c m o e n h = absurd (omega arith)
  sees_on (suc k) c m o e n h =
      let i : k ≡ suc k - 1 = omega arith in
      rw (sym e) (maybe_on o (sees_within P k (superclass_of P c) m) n ∙ ap (λ j. sees_within P j (superclass_of P c) m) i)

  -- the length of an object's row
  row_top : (k : ℕ) → length (fields_within P k 0) ≡ 0
  row_top zero = refl
  row_top (suc k) = rw (object_tops, length-append) (omega (arith, row_top k))

  pub row_object : (k c : ℕ) → c ≡ 0 → length (fields_within P k c) ≡ length (own_fields P c)
  row_object k c e = rw e (row_top k)

  pub row_last : (k c : ℕ) → k ≡ 0 → fields_within P k c ≡ own_fields P c
  row_last k c e = rw e refl

  pub row_on : (k c : ℕ) → 0 < k → fields_within P k c ≡ fields_within P (k - 1) (superclass_of P c) ++ own_fields P c
  row_on zero c h = absurd (omega arith)
  row_on (suc k) c h = let i : k ≡ suc k - 1 = omega arith in ap (λ j. fields_within P j (superclass_of P c) ++ own_fields P c) i
