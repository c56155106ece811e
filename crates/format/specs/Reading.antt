-- Reading as a chain of steps over a file, each from a place to what it gives and the place behind it. Assumes nothing.
use Rattle.std.specs.Prelude.{◌≡◌, ℕ, zero, suc, Bool, true, false, List, [], ◌∷◌, ◌++◌, Ok, Err, Result, MatchResult, nat_le}
use Rattle.number.specs.Numbers.{number_at}
use Rattle.number.specs.declared.fault.NumberFault.{NumberFault}
use Rattle.format.specs.declared.fault.TableFault.{TableFault}
use Rattle.format.specs.declared.fault.TableFault.TheVariants.{Number, Outside}

-- what is read, with the place behind it
abbrev pub Read : Type 0 → Type 0
Read A = Result (A × ℕ) TableFault

-- a fault of a number is one of the table's, whole
abbrev pub lifted : {A : Type 0} → Result A NumberFault → Result A TableFault
lifted (Ok r) = Ok r
lifted (Err e) = Err (Number e)

-- first x, then k from what it gave and the place behind it
abbrev pub then : {A B : Type 0} → Read A → (A → ℕ → Read B) → Read B
then (Ok r) k = k r.0 r.1
then (Err e) k = Err e

-- x where the test passes, else the fault
abbrev pub checked : {A : Type 0} → Bool → TableFault → Read A → Read A
checked true e x = x
checked false e x = Err e

-- n items, each read in the light of those before it
abbrev pub counted : {A : Type 0} → (List A → ℕ → Read A) → ℕ → List A → ℕ → Read (List A)
counted item zero acc p = Ok (acc, p)
counted item (suc n) acc p = then (item acc p) (λ a q. counted item n (acc ++ a ∷ []) q)

abbrev pub any_at : List ℕ → ℕ → Read ℕ
any_at file p = lifted (number_at file p)

abbrev pub at_most : List ℕ → ℕ → ℕ → Read ℕ
at_most file most p = then (any_at file p) (λ n q. checked (nat_le n most) (Outside p) (Ok (n, q)))

-- the answer r of a call that leaves s is what X says
abbrev pub Left : {S T E : Type 0} → Result T E → S → Result S E → Type 0
Left r s X = MatchResult r (λ _. X ≡ Ok s) (λ e. X ≡ Err e)
