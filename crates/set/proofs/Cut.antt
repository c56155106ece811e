-- What is left of a list behind its first items.
use Rattle.std.proofs.Common.{◌≡◌, ℕ, ◌-◌, List, length, take, drop, ap, ◌∙◌, arith}
use Rattle.std.proofs.lemmas.List.{length-drop, take_all}

pub cut_all : {X : Type 0} (first : ℕ) (xs ys : List X) → xs ≡ ys → take (length xs - first) (drop first xs) ≡ drop first ys
cut_all first xs ys e = take_all (length xs - first) (drop first xs) (rw length-drop (omega arith)) ∙ ap (drop first) e
