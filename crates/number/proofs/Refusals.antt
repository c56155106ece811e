-- What is refused is wrong: how many groups were there, and what they say.
use Rattle.std.proofs.Common.{◌≡◌, ℕ, suc, ◌+◌, ◌-◌, ◌*◌, ◌<◌, ◌≤◌, List, [], ◌∷◌, ◌++◌, length, drop, Err, sym, refl, ap, subst, inl, inr, arith}
use Rattle.std.proofs.ByRecursion.{All-push, All-drop}
use Rattle.std.proofs.lemmas.List.{append_assoc, append-nil, length-append}
use Rattle.std.proofs.lemmas.Bool.{cases_lt, cases_eq}
use Rattle.std.proofs.lemmas.Bool.Decides.{nat_tests}
use Rattle.std.specs.List.{AllByRecursion}
use Rattle.number.specs.declared.fault.NumberFault.{NumberFault}
use Rattle.number.specs.declared.fault.NumberFault.TheVariants.{Cut, Padded, Oversize}
use Rattle.number.specs.Numbers.{groups, number_at}
use Rattle.number.specs.Forms.{Form, last, more, Shortest, Carries, Wrong, cut, padded, oversize}
use Rattle.number.specs.Laws.{RefusedIsWrong}

-- a last group of 0 can be left out
record Longer (front : List ℕ) : Type 0 where
  n : ℕ
  groups : List ℕ
  long : Form n (front ++ 0 ∷ [])
  short : Form n groups
  less : length groups ≡ length front

longer : (front : List ℕ) → 0 < length front → AllByRecursion Carries front → AllByRecursion (λ b. b < 256) front → Longer front
longer [] h low high = absurd (omega arith)
longer (b ∷ []) h low high =
    record {
      n = b - 128;
      groups = (b - 128) ∷ [];
      long = more {m = 0} low.0 high.0 (omega arith) (last (omega arith));
      short = last (omega (arith, high.0));
      less = refl;
    }
longer (b ∷ c ∷ front) h low high =
    let w = longer (c ∷ front) (omega arith) low.1 high.1 in
    record {
      n = (b - 128) + 128 * w.n;
      groups = b ∷ w.groups;
      long = more low.0 high.0 refl w.long;
      short = more low.0 high.0 refl w.short;
      less = ap suc w.less;
    }

not_shortest : (front : List ℕ) (w : Longer front) → Shortest w.n (front ++ 0 ∷ []) → ⊥
not_shortest front w s = omega (arith, s.least w.groups w.short, w.less, length-append front (0 ∷ []))

-- the groups `front` were read
wrong : (s g v m at : ℕ) (front bs : List ℕ) (f : NumberFault) → length front ≡ g → g ≤ 4 → AllByRecursion Carries front → AllByRecursion (λ b. b < 256) front → AllByRecursion (λ b. b < 256) bs
    → groups s g v m at bs ≡ Err f → Wrong s (front ++ bs) f
wrong s g v m at front [] f l h low high small e =
    let d : Cut s ≡ f = cc in
    subst (Wrong s (front ++ [])) d (cut (omega (arith, length-append front [])) (subst (AllByRecursion Carries) (sym (append-nil front)) low))
wrong s g v m at front (b ∷ bs) f l h low high small e = elim (cases_lt b 16) [
  | inl tiny ↦
      (let d : Padded s ≡ f = grind (arith, nat_tests) in
      let z : b ≡ 0 = grind (arith, nat_tests) in
      let w = longer front (grind (arith, nat_tests)) low high in
      let whole : front ++ b ∷ bs ≡ (front ++ 0 ∷ []) ++ bs = rw z (sym (append_assoc front (0 ∷ []) bs)) in
      subst (Wrong s (front ++ b ∷ bs)) d
      (padded w.n (front ++ 0 ∷ []) bs whole (omega (arith, length-append front (0 ∷ []))) w.long (not_shortest front w)))
  | inr big ↦ elim (cases_eq g 4) [
    | inl top ↦
        (let d : Oversize s ≡ f = grind (arith, nat_tests) in
        subst (Wrong s (front ++ b ∷ bs)) d (oversize front bs b refl (omega arith) low big))
    | inr under ↦
        (let carry : 128 ≤ b = grind (arith, nat_tests) in
        let t : groups s (g + 1) (v + m * (b - 128)) (m * 128) (at + 1) bs ≡ Err f = grind (arith, nat_tests) in
        subst (λ l. Wrong s l f) (append_assoc front (b ∷ []) bs)
        (wrong s (g + 1) _ _ _ (front ++ b ∷ []) bs f
        (omega (arith, length-append front (b ∷ []))) (omega arith)
        (All-push Carries front b low carry) (All-push (λ x. x < 256) front b high small.0) small.1 t))
  ]
]

pub refused : RefusedIsWrong
unfolding number_at
refused file p f small e = wrong p 0 0 1 p [] (drop p file) f refl (omega arith) tt tt (All-drop (λ b. b < 256) p file small) e
