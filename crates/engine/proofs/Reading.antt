-- Operands read off a stack, by how many lie above, and registers. Assumes nothing.
use Rattle.std.proofs.Common.{◌≡◌, ℕ, zero, suc, ◌-◌, ◌<◌, ◌≤◌, List, [], ◌∷◌, length, get_or, take, drop, Some, None, Option, sym, refl, ap, ◌∙◌, arith}
use Rattle.std.specs.List.{slice_get}
use Rattle.std.proofs.lemmas.List.{length-reverse, length-take-le, get_or-take}
use Rattle.std.proofs.lemmas.Option.{slice_get-get_or, slice_get_past}
use Rattle.stack.specs.Stacked.{held, Seen}
use Rattle.stack.proofs.Held.{held_drop}
use Rattle.jinja.specs.Handlers.{lowest}
use Rattle.jinja.specs.Options.{two_of}

pub held_length : {X : Type 0} (xs : List X) (h : ℕ) → h ≤ length xs → length (held xs h) ≡ h
held_length xs h l = length-reverse (take h xs) ∙ length-take-le h xs l

-- the lowest d cells
pub lowest_held : {X : Type 0} (xs : List X) (h d : ℕ) → d ≤ h → h ≤ length xs → lowest d (held xs h) ≡ held xs d
lowest_held xs h d l m =
    let e : h - (h - d) ≡ d = omega arith in
    ap (λ n. drop (n - d) (held xs h)) (held_length xs h m) ∙ held_drop xs h (h - d) (omega arith) m ∙ ap (held xs) e

pub two_short : {X : Type 0} (xs : List X) → length xs ≤ 1 → two_of xs ≡ None
two_short [] l = refl
two_short (x ∷ []) l = refl
two_short (x ∷ y ∷ xs) l = absurd (omega arith)

pub register_read : {X : Type 0} (xs : List X) (n i : ℕ) (d : X) → i < n → n ≤ length xs → slice_get (take n xs) i ≡ Some (get_or xs i d)
register_read xs n i d l m =
    let e = length-take-le n xs m in
    slice_get-get_or (take n xs) i d (omega (arith, e)) ∙ ap Some (get_or-take n xs i d l)

pub register_past : {X : Type 0} (xs : List X) (n i : ℕ) → n ≤ i → n ≤ length xs → slice_get (take n xs) i ≡ None
register_past xs n i l m = let e = length-take-le n xs m in slice_get_past (take n xs) i (omega (arith, e))

nth_drop : {X : Type 0} (xs : List X) (i : ℕ) {x : X} {ys : List X} → drop i xs ≡ x ∷ ys → slice_get xs i ≡ Some x
nth_drop [] zero e = cc
nth_drop [] (suc i) e = cc
nth_drop (y ∷ xs) zero e = cc
nth_drop (y ∷ xs) (suc i) e = nth_drop xs i e

-- the operand with i above it, by its place
pub seen_nth : {X : Type 0} (xs : List X) (h i : ℕ) (r : Option X) → h ≤ length xs → Seen xs h i r → r ≡ slice_get (held xs h) i
seen_nth xs h i None l s = let e = held_length xs h l in sym (slice_get_past (held xs h) i (omega (arith, e)))
seen_nth xs h i (Some x) l s = sym (nth_drop (held xs h) i s.1)
