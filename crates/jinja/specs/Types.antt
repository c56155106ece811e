-- Types by their numbers. Assumes nothing.
use Rattle.std.specs.Prelude.{◌≡◌, ◌≤◌, ◌<◌, Result, MatchResult, ℕ, zero, suc, ◌+◌, Bool, true, false, ◌&&◌, List, [], ◌∷◌, ◌==◌, nat_lt}
use Rattle.jinja.specs.declared.ty.Ty.{Ty}
use Rattle.jinja.specs.declared.ty.NoType.{NoType}
use Rattle.jinja.specs.declared.ty.Ty.TheVariants.{Void, Boolean, Integer, NullType, Class}

-- the number by which a file names a type
abbrev pub type_number : Ty → ℕ
type_number Void = 0
type_number Boolean = 1
type_number Integer = 2
type_number NullType = 3
type_number (Class c) = 4 + c

abbrev pub type_of_number : ℕ → Ty
type_of_number zero = Void
type_of_number (suc zero) = Boolean
type_of_number (suc (suc zero)) = Integer
type_of_number (suc (suc (suc zero))) = NullType
type_of_number (suc (suc (suc (suc c)))) = Class c

-- the greatest number of a type
abbrev pub largest_type : ℕ
largest_type = 259

-- what reading the number of a type answers: the type, or that there is none
abbrev pub Numbered : ℕ → Result Ty NoType → Type 0
Numbered n r = MatchResult r (λ t. (n ≤ largest_type) × (t ≡ type_of_number n)) (λ e. (largest_type < n) × (e.0 ≡ n))

abbrev pub same_type : Ty → Ty → Bool
same_type t u = type_number t == type_number u

abbrev pub same_types : List Ty → List Ty → Bool
same_types [] [] = true
same_types [] (u ∷ us) = false
same_types (t ∷ ts) [] = false
same_types (t ∷ ts) (u ∷ us) = same_type t u && same_types ts us

-- the type exists where there are n classes in all
abbrev pub type_exists : ℕ → Ty → Bool
type_exists n Void = true
type_exists n Boolean = true
type_exists n Integer = true
type_exists n NullType = true
type_exists n (Class c) = nat_lt c n
