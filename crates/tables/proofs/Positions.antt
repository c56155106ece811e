-- The search for a name.
use Rattle.std.proofs.Common.{◌≡◌, ℕ, zero, suc, ◌+◌, ◌<◌, List, [], ◌∷◌, map, length, Some, None, Option, MatchOption, sym, refl, arith}
use Rattle.std.specs.List.{AllWithin, HoldsAt}
use Rattle.std.proofs.lemmas.Bool.{eq-eqb, ne_eqb}
use Rattle.jinja.specs.Classes.{maybe}
use Rattle.jinja.specs.Lookups.{position}

-- a place counted from i on
abbrev pub later : ℕ → Option ℕ → Option ℕ
later i o = maybe o None (λ j. Some (i + j))

module _ {A : Type 0} (name : A → ℕ) (n : ℕ) where
  abbrev pub Has : A → Type 0
  Has x = name x ≡ n

  abbrev pub Lacks : A → Type 0
  Lacks x = name x ≡ n → ⊥

  position_none : (xs : List A) → AllWithin Lacks xs 0 (length xs) → position name n xs ≡ None
  position_none [] h = refl
  position_none (x ∷ xs) h =
      rw (ne_eqb (name x) n (h 0 x (omega arith) (omega arith)), position_none xs (λ k d l u. h (suc k) d (omega arith) (omega arith))) refl

  position_some : (xs : List A) (i : ℕ) → i < length xs → HoldsAt Has xs i → AllWithin Lacks xs 0 i → position name n xs ≡ Some i
  position_some [] i l e h = absurd (omega arith)
  position_some (x ∷ xs) zero l e h = rw (eq-eqb (name x) n (e x)) refl
  position_some (x ∷ xs) (suc i) l e h =
      rw (ne_eqb (name x) n (h 0 x (omega arith) (omega arith)), position_some xs i (omega arith) (λ d. e d) (λ k d a u. h (suc k) d (omega arith) (omega arith))) refl

  -- the first item that has the name
  pub position_first : (o : Option ℕ) (xs : List A) → MatchOption o (AllWithin Lacks xs 0 (length xs)) (λ i. (i < length xs) × HoldsAt Has xs i × AllWithin Lacks xs 0 i) → o ≡ position name n xs
  position_first None xs h = sym (position_none xs h)
  position_first (Some i) xs h = sym (position_some xs i h.0 h.1 h.2)

pub position_map : {A B : Type 0} (name : B → ℕ) (f : A → B) (n : ℕ) (xs : List A) → position name n (map f xs) ≡ position (λ x. name (f x)) n xs
position_map name f n [] = refl
position_map name f n (x ∷ xs) = rw (position_map name f n xs) refl
