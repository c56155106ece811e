-- Types on a stack of cells: what is pushed and popped as numbers. Assumes nothing.
use Rattle.std.proofs.Common.{◌≡◌, ℕ, zero, suc, ◌+◌, ◌-◌, ◌<◌, ◌≤◌, List, [], ◌∷◌, map, length, get_or, take, drop, set, Some, ap, ◌∙◌, ⊎_elim, arith}
use Rattle.std.proofs.lemmas.List.{get_or-reverse, get_or-drop, get_or_past, drop-map, length-reverse, length-map, length-take-le}
use Rattle.std.proofs.lemmas.Bool.{cases_lt, ne_eqb}
use Rattle.std.specs.Prelude.{Ok, Err, Result}
use Rattle.std.specs.Result.{result_ok}
use Rattle.jinja.specs.declared.ty.Ty.{Ty}
use Rattle.jinja.specs.declared.ty.NoType.{NoType}
use Rattle.jinja.specs.Types.{type_of_number, Numbered}
use Rattle.jinja.specs.Rows.{usable}
use Rattle.jinja.specs.Handlers.{lowest}
use Rattle.stack.proofs.Held.{held_drop}
use Rattle.stack.specs.Stacked.{held}
use Rattle.type_rows.proofs.RowParts.{small_take}
use Rattle.type_rows.specs.Numbers.{absent, cell_of_number, largest, Small, types_in}

-- what a stack of small numbers holds is small
small_held : (xs : List ℕ) (h : ℕ) → Small xs → Small (held xs h)
small_held xs h s k =
    ⊎_elim
    (λ (l : k < length (take h xs)). let g = get_or-reverse (take h xs) k 0 l in let b = small_take h xs s (length (take h xs) - 1 - k) in omega arith)
    (λ (l : length (take h xs) ≤ k). let r = length-reverse (take h xs) in let g = get_or_past (held xs h) k 0 (omega arith) in omega arith)
    (cases_lt k (length (take h xs)))

pub seen_small : (xs : List ℕ) (h i n : ℕ) (rest : List ℕ) → Small xs → drop i (held xs h) ≡ n ∷ rest → n ≤ largest
seen_small xs h i n rest s e =
    let b = small_held xs h s (i + 0) in
    let g = get_or-drop i (held xs h) 0 0 in
    let t = ap (λ (l : List ℕ). get_or l 0 0) e in
    omega arith

-- a small number is read as its type
pub numbered_type : {n : ℕ} (r : Result Ty NoType) → n ≤ largest → Numbered n r → result_ok r ≡ Some (type_of_number n)
numbered_type (Ok t) l e = ap Some e.1
numbered_type (Err x) l e = absurd (omega (arith, e.0))

pub small_set : (xs : List ℕ) (i n : ℕ) → Small xs → n ≤ largest → Small (set xs i n)
small_set [] i n s l k = s k
small_set (x ∷ xs) zero n s l zero = l
small_set (x ∷ xs) zero n s l (suc k) = s (suc k)
small_set (x ∷ xs) (suc i) n s l zero = s 0
small_set (x ∷ xs) (suc i) n s l (suc k) = small_set xs i n (λ j. s (suc j)) l k

pub types_height : (xs : List ℕ) (h : ℕ) → h ≤ length xs → length (types_in xs h) ≡ h
types_height xs h l = length-map (held xs h) type_of_number ∙ length-reverse (take h xs) ∙ length-take-le h xs l

pub cell_of_type : (n : ℕ) (t : Ty) → n < absent → type_of_number n ≡ t → cell_of_number n ≡ usable t
cell_of_type n t l e = rw (ne_eqb n absent (omega arith), e)

-- numbers that are the same
pub small_same : (xs ys : List ℕ) → xs ≡ ys → Small ys → Small xs
small_same xs ys e s k = rw e (s k)

-- the lowest types of a stack are those of its lowest cells
pub lowest_types : (xs : List ℕ) (h d : ℕ) → h ≤ length xs → d ≤ h → lowest d (types_in xs h) ≡ types_in xs d
lowest_types xs h d l k =
    let n = types_height xs h l in
    let e : length (types_in xs h) - d ≡ h - d = omega arith in
    let z : h - (h - d) ≡ d = omega arith in
    ap (λ (a : ℕ). drop a (types_in xs h)) e ∙ drop-map type_of_number (h - d) (held xs h) ∙ ap (map type_of_number) (held_drop xs h (h - d) (omega arith) l ∙ ap (held xs) z)
