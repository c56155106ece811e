-- The numbers of types and cells, read back. Assumes nothing.
use Rattle.std.proofs.Common.{◌≡◌, ℕ, zero, suc, ◌+◌, List, [], ◌∷◌, ◌++◌, map, reverse, take, sym, refl, ap, ◌∙◌, ⊎_elim, arith}
use Rattle.std.proofs.lemmas.List.{reverse-reverse, reverse-append, map-append}
use Rattle.std.proofs.lemmas.Bool.{eq-eqb, ne_eqb, cases_eq}
use Rattle.jinja.specs.declared.ty.Ty.{Ty}
use Rattle.jinja.specs.declared.ty.Ty.TheVariants.{Void, Boolean, Integer, NullType, Class}
use Rattle.jinja.specs.Types.{type_number, type_of_number}
use Rattle.type_rows.specs.Numbers.{absent, cell_number, cell_of_number, types_in, cells_in}

pub type_back : (t : Ty) → type_of_number (type_number t) ≡ t
type_back Void = refl
type_back Boolean = refl
type_back Integer = refl
type_back NullType = refl
type_back (Class c) = let e : 4 + c ≡ suc (suc (suc (suc c))) = omega arith in rw e refl

pub number_back : (n : ℕ) → type_number (type_of_number n) ≡ n
number_back zero = refl
number_back (suc zero) = refl
number_back (suc (suc zero)) = refl
number_back (suc (suc (suc zero))) = refl
number_back (suc (suc (suc (suc c)))) = omega arith

pub cell_number_back : (n : ℕ) → cell_number (cell_of_number n) ≡ n
cell_number_back n =
    ⊎_elim
    (λ (e : n ≡ absent). let z : absent ≡ n = omega arith in rw (eq-eqb n absent e) z)
    (λ (e : n ≡ absent → ⊥). rw (ne_eqb n absent e) (number_back n))
    (cases_eq n absent)

types_numbered : (ns : List ℕ) → map type_number (map type_of_number ns) ≡ ns
types_numbered [] = refl
types_numbered (n ∷ ns) = rw (number_back n, types_numbered ns) refl

map_reverse : {A B : Type 0} (f : A → B) (xs : List A) → map f (reverse xs) ≡ reverse (map f xs)
map_reverse f [] = refl
map_reverse {B = B} f (x ∷ xs) =
    ap (map f) (reverse-append (x ∷ []) xs) ∙ map-append f (reverse xs) (x ∷ [])
    ∙ ap (λ (l : List B). l ++ f x ∷ []) (map_reverse f xs) ∙ sym (reverse-append (f x ∷ []) (map f xs))

-- the cells of a stack from its types
pub stack_back : (cells : List ℕ) (h : ℕ) → map type_number (reverse (types_in cells h)) ≡ take h cells
stack_back cells h =
    ap (λ (ts : List Ty). map type_number (reverse ts)) (map_reverse type_of_number (take h cells))
    ∙ ap (map type_number) (reverse-reverse (map type_of_number (take h cells)))
    ∙ types_numbered (take h cells)

-- and the registers from what they hold
pub registers_back : (ns : List ℕ) → map cell_number (cells_in ns) ≡ ns
registers_back [] = refl
registers_back (n ∷ ns) = rw (cell_number_back n, registers_back ns) refl
