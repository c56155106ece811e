-- The frames that wait, where those above them change. Assumes nothing.
use Rattle.std.proofs.Common.{◌≡◌, ℕ, ◌+◌, ◌-◌, ◌<◌, ◌≤◌, List, [], ◌∷◌, length, take, sym, ap, ◌∙◌, subst, inl, inr, arith}
use Rattle.std.specs.List.{AllWithin}
use Rattle.std.proofs.lemmas.Bool.{cases_lt}
use Rattle.format.specs.Limits.{max_instrs}
use Rattle.engine.specs.declared.frame.Frame.{Frame}
use Rattle.engine.specs.Waiting.{Waits}
use Rattle.engine.specs.Views.{lowest_frames}
use Rattle.engine.specs.Stepping.{top_pc}
use Rattle.engine.proofs.Tops.{lowest_top, get_or_same}

pub waits_same : (xs ys : List Frame) (m n : ℕ) → take n ys ≡ take n xs → n ≤ m → AllWithin Waits xs 0 m → AllWithin Waits ys 0 n
waits_same xs ys m n e s w k d z l = subst Waits (sym (get_or_same xs ys n k d e l)) (w k d z (omega arith))

-- the top one too
pub waits_more : (xs ys : List Frame) (n : ℕ) → take n ys ≡ take n xs → 0 < n → n ≤ length xs → AllWithin Waits xs 0 (n - 1) → top_pc (lowest_frames xs n) < max_instrs → AllWithin Waits ys 0 n
waits_more xs ys n e p s w t k d z l = subst Waits (sym (get_or_same xs ys n k d e l)) (elim (cases_lt k (n - 1)) [
  | inl u ↦ w k d z u
  | inr u ↦
      (let one : n - 1 + 1 ≡ n = omega arith in
      let at : n - 1 ≡ k = omega arith in
      rw at at (rw (sym (ap (lowest_frames xs) one) ∙ lowest_top xs (n - 1) d (omega arith)) at t))
])

-- one of them, where it is the top one
pub waits_inside : (fs : List Frame) (k m : ℕ) → k < length fs → k < m → AllWithin Waits fs 0 m → top_pc (lowest_frames fs (k + 1)) < max_instrs
waits_inside [] k m l b w = absurd (omega arith)
waits_inside (f ∷ fs) k m l b w = rw (lowest_top (f ∷ fs) k f l) (w k f (omega arith) b)
