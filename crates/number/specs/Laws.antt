-- The laws of numbers.
use Rattle.std.specs.Prelude.{◌≡◌, ℕ, ◌+◌, ◌<◌, List, ◌++◌, length, drop, ℤ, Ok, Err}
use Rattle.std.specs.List.{AllByRecursion}
use Rattle.number.specs.declared.fault.NumberFault.{NumberFault}
use Rattle.number.specs.Numbers.{number_limit, number_at, bytes}
use Rattle.number.specs.Forms.{Stands, Wrong}
use Rattle.number.specs.Signed.{signed, unsigned}

-- what a file is made of
abbrev pub AllBytes : List ℕ → Type 0
AllBytes file = AllByRecursion (λ b. b < 256) file

-- the bytes of a number are read as that number, whatever stands before and behind
abbrev pub WrittenIsRead : Type 0
WrittenIsRead =
    (n : ℕ) (before after : List ℕ) → n < number_limit
    → number_at (before ++ (bytes n ++ after)) (length before) ≡ Ok (n, length before + length (bytes n))

-- where a number is read, its bytes stand
abbrev pub ReadWasWritten : Type 0
ReadWasWritten =
    (file : List ℕ) (p n q : ℕ) → AllBytes file → number_at file p ≡ Ok (n, q)
    → (n < number_limit) × (drop p file ≡ bytes n ++ drop q file) × (q ≡ p + length (bytes n))

-- a number that is read stands there, in its shortest form
abbrev pub ReadStands : Type 0
ReadStands = (file : List ℕ) (p n q : ℕ) → AllBytes file → number_at file p ≡ Ok (n, q) → Stands file p n q

-- each number that stands there is read
abbrev pub StandingIsRead : Type 0
StandingIsRead = (file : List ℕ) (p n q : ℕ) → Stands file p n q → number_at file p ≡ Ok (n, q)

-- what is refused is wrong, as the fault says
abbrev pub RefusedIsWrong : Type 0
RefusedIsWrong = (file : List ℕ) (p : ℕ) (fault : NumberFault) → AllBytes file → number_at file p ≡ Err fault → Wrong p (drop p file) fault

-- signed numbers and numbers stand for one another
pub record SignsStand : Type 0 where
  pub back : (z : ℤ) → signed (unsigned z) ≡ z
  pub forth : (n : ℕ) → unsigned (signed n) ≡ n
