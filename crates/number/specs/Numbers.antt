-- A number of the file: groups of seven bits, lowest first.
use Rattle.std.specs.Prelude.{◌≡◌, ℕ, zero, suc, ◌+◌, ◌-◌, ◌*◌, ◌/◌, ◌%◌, ◌^◌, Bool, cond, ◌&&◌, List, [], ◌∷◌, drop, Ok, Err, Result, MatchResult, ◌==◌, nat_le, nat_lt}
use Rattle.number.specs.declared.fault.NumberFault.{NumberFault}
use Rattle.number.specs.declared.fault.NumberFault.TheVariants.{Cut, Padded, Oversize}

-- every number is below this
abbrev pub number_limit : ℕ
number_limit = 2 ^ 32

-- no number needs more groups
abbrev pub most_groups : ℕ
most_groups = 5

-- the last of so many groups is below this: four of the 32 bits are left for it
abbrev pub top_limit : ℕ
top_limit = 16

-- the byte b, with g groups before it, says more than the bits that are left
abbrev pub oversize_at : ℕ → ℕ → Bool
oversize_at g b = g == most_groups - 1 && nat_le top_limit b

-- the last byte b, with g groups before it, could be left out
abbrev pub padding_at : ℕ → ℕ → Bool
padding_at g b = nat_lt 0 g && b == 0

-- the number and the place behind it, or what is wrong with the number that begins at s: its groups from `at` on are bs, g of them
-- stand before, which give v, and one more counts m times
abbrev pub groups : ℕ → ℕ → ℕ → ℕ → ℕ → List ℕ → Result (ℕ × ℕ) NumberFault
groups s g v m at [] = Err (Cut s)
groups s g v m at (b ∷ bs) =
    cond (oversize_at g b) (Err (Oversize s))
    (cond (nat_lt b 128)
    (cond (padding_at g b) (Err (Padded s)) (Ok (v + m * b, at + 1)))
    (groups s (g + 1) (v + m * (b - 128)) (m * 128) (at + 1) bs))

-- the number at place p of the file
unfoldable pub number_at : List ℕ → ℕ → Result (ℕ × ℕ) NumberFault
number_at file p = groups p 0 0 1 p (drop p file)

-- the answer r, with which the cursor stands at q, is what X says
abbrev pub Gave : {A E : Type 0} → Result A E → ℕ → Result (A × ℕ) E → Type 0
Gave r q X = MatchResult r (λ v. X ≡ Ok (v, q)) (λ e. X ≡ Err e)

-- the bytes of n, in at most k + 1 groups
abbrev pub bytes_by : ℕ → ℕ → List ℕ
bytes_by zero n = n ∷ []
bytes_by (suc k) n = cond (nat_lt n 128) (n ∷ []) ((128 + n % 128) ∷ bytes_by k (n / 128))

-- the bytes of a number: its groups, 128 added to all but the last
unfoldable pub bytes : ℕ → List ℕ
bytes n = bytes_by (most_groups - 1) n
