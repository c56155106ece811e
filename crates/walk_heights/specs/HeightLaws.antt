-- Heights are a lattice, and their flow is monotone. Assumes nothing.
use Rattle.std.specs.Prelude.{◌≡◌, ℕ, zero, suc, ◌+◌, ◌-◌, ◌<◌, ◌≤◌, false, cond, ◌⊎◌, List, length, ◌==◌, ◌≢◌, nat_le, nat_lt, slice_index, refl}
use Rattle.std.proofs.Common.{sym, ap, subst, ◌∙◌, inl, inr, ⊎_elim, arith}
use Rattle.std.proofs.lemmas.Bool.{cases_eq, eq-eqb, ne_eqb, ltb-true, leb-false, both_ways, cond-false, cond_both}
use Rattle.walk.specs.Limits.{most_nodes}
use Rattle.walk.specs.Lattice.{Le, Lattice}
use Rattle.walk.specs.Flow.{Sent, nothing, sent, Below, nothing_below, row_below, Lawful, nothing_lawful, row_lawful, Flow, Monotone}
use Rattle.walk.specs.Framework.{Framework}
use Rattle.walk_heights.specs.declared.height.Height.{Height}
use Rattle.walk_heights.specs.declared.height.Height.TheVariants.{Unreached, Tall, Clash}
use Rattle.walk_heights.specs.Heights.{highest, joined, Good, rises_left, read, Shows, refused_at, after, to_step, sends_height, sends, heights}
use Rattle.walk_heights.specs.Steps.{is_branch}

-- two heights join to one of them or clash
same_height : (a b : ℕ) → a ≡ b → joined (Tall a) (Tall b) ≡ Tall a
same_height a b e = ap (λ t. cond t (Tall a) Clash) (eq-eqb a b e)

other_height : (a b : ℕ) → (a ≢ b) → joined (Tall a) (Tall b) ≡ Clash
other_height a b ne = ap (λ t. cond t (Tall a) Clash) (ne_eqb a b ne)

good_two : (a b : ℕ) → a ≤ highest → Good (joined (Tall a) (Tall b))
good_two a b l = ⊎_elim (λ (e : a ≡ b). subst Good (sym (same_height a b e)) l) (λ (ne : a ≡ b → ⊥). subst Good (sym (other_height a b ne)) tt) (cases_eq a b)

good_joined : (x y : Height) → Good x → Good y → Good (joined x y)
good_joined Unreached y p q = q
good_joined (Tall a) Unreached p q = p
good_joined (Tall a) (Tall b) p q = good_two a b p
good_joined (Tall a) Clash p q = tt
good_joined Clash y p q = tt

clash_right : (x : Height) → joined x Clash ≡ Clash
clash_right Unreached = refl
clash_right (Tall a) = refl
clash_right Clash = refl

idem : (x : Height) → joined x x ≡ x
idem Unreached = refl
idem (Tall a) = same_height a a refl
idem Clash = refl

comm_two : (a b : ℕ) → joined (Tall a) (Tall b) ≡ joined (Tall b) (Tall a)
comm_two a b = ⊎_elim
    (λ (e : a ≡ b). same_height a b e ∙ ap Tall e ∙ sym (same_height b a (sym e)))
    (λ (ne : a ≡ b → ⊥). other_height a b ne ∙ sym (other_height b a (λ e. ne (sym e))))
    (cases_eq a b)

comm : (x y : Height) → joined x y ≡ joined y x
comm Unreached Unreached = refl
comm Unreached (Tall b) = refl
comm Unreached Clash = refl
comm (Tall a) Unreached = refl
comm (Tall a) (Tall b) = comm_two a b
comm (Tall a) Clash = refl
comm Clash Unreached = refl
comm Clash (Tall b) = refl
comm Clash Clash = refl

unreached_right : (x : Height) → joined x Unreached ≡ x
unreached_right Unreached = refl
unreached_right (Tall a) = refl
unreached_right Clash = refl

assoc_three : (a b c : ℕ) → joined (joined (Tall a) (Tall b)) (Tall c) ≡ joined (Tall a) (joined (Tall b) (Tall c))
assoc_three a b c = ⊎_elim
    (λ (p : a ≡ b). ⊎_elim
    (λ (q : b ≡ c). ap (λ x. joined x (Tall c)) (same_height a b p) ∙ same_height a c (p ∙ q) ∙ sym (same_height a b p) ∙ ap (joined (Tall a)) (sym (same_height b c q)))
    (λ (q : b ≡ c → ⊥). ap (λ x. joined x (Tall c)) (same_height a b p) ∙ other_height a c (λ e. q (sym p ∙ e)) ∙ ap (joined (Tall a)) (sym (other_height b c q)))
    (cases_eq b c))
    (λ (p : a ≡ b → ⊥). ap (λ x. joined x (Tall c)) (other_height a b p) ∙ ⊎_elim
    (λ (q : b ≡ c). sym (other_height a b p) ∙ ap (joined (Tall a)) (sym (same_height b c q)))
    (λ (q : b ≡ c → ⊥). ap (joined (Tall a)) (sym (other_height b c q)))
    (cases_eq b c))
    (cases_eq a b)

assoc : (x y z : Height) → joined (joined x y) z ≡ joined x (joined y z)
assoc Unreached y z = refl
assoc (Tall a) Unreached z = refl
assoc (Tall a) (Tall b) Unreached = unreached_right (joined (Tall a) (Tall b))
assoc (Tall a) (Tall b) (Tall c) = assoc_three a b c
assoc (Tall a) (Tall b) Clash = clash_right (joined (Tall a) (Tall b))
assoc (Tall a) Clash z = refl
assoc Clash y z = refl

rises_two : (a b : ℕ) → (joined (Tall a) (Tall b) ≢ Tall a) → rises_left (joined (Tall a) (Tall b)) < 1
rises_two a b ne = ⊎_elim
    (λ (e : a ≡ b). absurd (ne (same_height a b e)))
    (λ (d : a ≡ b → ⊥). let e = ap rises_left (other_height a b d) in omega arith)
    (cases_eq a b)

rises : (x y : Height) → (joined x y ≢ x) → rises_left (joined x y) < rises_left x
rises Unreached Unreached ne = absurd (ne refl)
rises Unreached (Tall b) ne = omega arith
rises Unreached Clash ne = omega arith
rises (Tall a) Unreached ne = absurd (ne refl)
rises (Tall a) (Tall b) ne = rises_two a b ne
rises (Tall a) Clash ne = omega arith
rises Clash y ne = absurd (ne refl)

pub height_lattice : Lattice Good Unreached joined rises_left
height_lattice = record {
  good_bottom = tt;
  good_join = good_joined;
  lowest = λ x p. refl;
  idem = λ x p. idem x;
  comm = λ x y p q. comm x y;
  assoc = λ x y z p q r. assoc x y z;
  rises = λ x y p q ne. rises x y ne;
}

-- a height lies below itself and below a clash alone
at_below : (a : ℕ) (y : Height) → Le joined (Tall a) y → (y ≡ Tall a) ⊎ (y ≡ Clash)
at_below a Unreached e = inl (sym e)
at_below a (Tall b) e = ⊎_elim (λ (p : a ≡ b). inl (ap Tall (sym p))) (λ (p : a ≡ b → ⊥). inr (sym e ∙ other_height a b p)) (cases_eq a b)
at_below a Clash e = inr refl

clash_below : (y : Height) → Le joined Clash y → y ≡ Clash
clash_below y e = sym e

module _ (code : List ℕ) where
  abbrev flow : Flow Height
  flow = heights code

  clash_refused : (c : ℕ) (y : Height) → y ≡ Clash → refused_at c y ≢ false
  clash_refused c y e r = both_ways (refused_at c y) r (ap (refused_at c) e)

  taken : (c : ℕ) (x y : Height) → Le joined x y → refused_at c y ≡ false → refused_at c x ≡ false
  taken c Unreached y e r = refl
  taken c (Tall a) y e r = ⊎_elim (λ (p : y ≡ Tall a). sym (ap (refused_at c) p) ∙ r) (λ (p : y ≡ Clash). absurd (clash_refused c y p r)) (at_below a y e)
  taken c Clash y e r = absurd (clash_refused c y (clash_below y e) r)

  below_self : (s : Sent Height) → Below joined s s
  below_self nothing = nothing_below
  below_self (sent k x) = row_below (idem x)

  less : (n c i e : ℕ) (x y : Height) → Le joined x y → refused_at c y ≡ false → Below joined (sends n c i e x) (sends n c i e y)
  less n c i e Unreached y h r = nothing_below
  less n c i e (Tall a) y h r = ⊎_elim
      (λ (p : y ≡ Tall a). subst (λ (z : Height). Below joined (sends n c i e (Tall a)) (sends n c i e z)) (sym p) (below_self (sends n c i e (Tall a))))
      (λ (p : y ≡ Clash). absurd (clash_refused c y p r))
      (at_below a y h)
  less n c i e Clash y h r = nothing_below

  lawful_to : (n k h : ℕ) → h ≤ highest → Lawful Good n (to_step n k h)
  lawful_to n k h l = cond_both (nat_lt k n) (sent k (Tall h)) nothing (Lawful Good n) (λ e. row_lawful (ltb-true k n e) l) (λ _. nothing_lawful)

  -- a height that a step takes leaves one within the limit
  after_low : (c h : ℕ) → h ≤ highest → refused_at c (Tall h) ≡ false → after c h ≤ highest
  after_low c h l r = cond_both (is_branch c) (h - 1) (h + 1) (λ n. n ≤ highest)
      (λ _. omega arith)
      (λ e. let low = leb-false highest h (sym (cond-false (is_branch c) (h == 0) (nat_le highest h) e) ∙ r) in omega arith)

  lawful_at : (n c i e h : ℕ) → after c h ≤ highest → Lawful Good n (sends_height n c i e h)
  lawful_at n c i zero h l = lawful_to n (i + 1) (after c h) l
  lawful_at n c i (suc e) h l = cond_both (is_branch c) (to_step n c (after c h)) nothing (Lawful Good n) (λ _. lawful_to n c (after c h) l) (λ _. nothing_lawful)

  lawful : (n c i e : ℕ) (x : Height) → Good x → refused_at c x ≡ false → Lawful Good n (sends n c i e x)
  lawful n c i e Unreached p r = nothing_lawful
  lawful n c i e (Tall h) p r = lawful_at n c i e h (after_low c h p r)
  lawful n c i e Clash p r = nothing_lawful

  pub height_flow : length code ≤ most_nodes → Monotone Good Unreached joined flow
  height_flow few = record {
    few = few;
    good_start = omega arith;
    content = λ i l. refl;
    silent = λ i e l f. refl;
    taken = λ i x y l p q. taken (slice_index code i) x y;
    lawful = λ i e x l f p. lawful (length code) (slice_index code i) i e x p;
    less = λ i e x y l f p q. less (length code) (slice_index code i) i e x y;
  }

abbrev pub height_framework : (code : List ℕ) → length code ≤ most_nodes → Framework
height_framework code few = record {
  Row = Height;
  good = Good;
  bottom = Unreached;
  join = joined;
  left = rises_left;
  lattice = height_lattice;
  flow = heights code;
  monotone = height_flow code few;
  shows = Shows;
  read = read;
}
