-- Reading a file of n bytes beside one that goes on behind it: what is read is the same until a number is cut.
use Rattle.std.proofs.Common.{◌≡◌, ℕ, zero, suc, ◌+◌, ◌-◌, ◌*◌, ◌<◌, ◌≤◌, Bool, true, false, cond, ltb, leb, List, [], ◌∷◌, ◌++◌, length, drop, Ok, Err, Result, sym, refl, subst, inl, inr, arith}
use Rattle.std.proofs.lemmas.List.{drop-append-le, length-drop}
use Rattle.std.proofs.lemmas.Bool.{cases_lt}
use Rattle.std.proofs.lemmas.Bool.Decides.{nat_tests}
use Rattle.number.specs.Numbers.{most_groups, oversize_at, padding_at, groups, number_at}
use Rattle.number.specs.declared.fault.NumberFault.{NumberFault}
use Rattle.number.specs.declared.fault.NumberFault.TheVariants.{Cut}
use Rattle.format.specs.declared.fault.TableFault.{TableFault}
use Rattle.format.specs.declared.fault.TableFault.TheVariants.{Number, Outside}
use Rattle.format.specs.Faults.{table_fault_place}
use Rattle.format.specs.Reading.{Read, lifted, then, checked, counted, any_at, at_most}

-- what is read from p on ends or is refused at p or behind it
abbrev pub From : {A : Type 0} → ℕ → Read A → Type 0
From p (Ok r) = p ≤ r.1
From p (Err f) = p ≤ table_fault_place f

-- x is read of n bytes and y of those with more behind; a number that is cut has not all of its groups among them
pub data Goes (n : ℕ) {A : Type 0} : Read A → Read A → Type 0 where
  gives : {a : A} {q : ℕ} → q ≤ n → Goes n (Ok (a, q)) (Ok (a, q))
  refuses : {f : TableFault} → table_fault_place f ≤ n → Goes n (Err f) (Err f)
  cuts : {p : ℕ} {y : Read A} → p ≤ n → n < p + most_groups → From p y → Goes n (Err (Number (Cut p))) y

-- the same of one number that begins at p, and may begin behind the n bytes
pub data One (n p : ℕ) {A : Type 0} : Read A → Read A → Type 0 where
  whole : {a : A} {q : ℕ} → p ≤ q → q ≤ n → One n p (Ok (a, q)) (Ok (a, q))
  wrong : {f : TableFault} → table_fault_place f ≡ p → One n p (Err f) (Err f)
  short : {y : Read A} → n < p + most_groups → From p y → One n p (Err (Number (Cut p))) y
  behind : {x y : Read A} → n < p → From p y → One n p x y

from_up : {A : Type 0} (x : Read A) (p r : ℕ) → p ≤ r → From r x → From p x
from_up (Ok q) p r l h = omega arith
from_up (Err f) p r l h = omega arith

from_then : {A B : Type 0} (x : Read A) (k : A → ℕ → Read B) (p : ℕ) → From p x → ((a : A) (r : ℕ) → p ≤ r → From p (k a r)) → From p (then x k)
from_then (Ok r) k p l f = f r.0 r.1 l
from_then (Err e) k p l f = l

from_checked : {A : Type 0} (t : Bool) (a : A) (f : TableFault) (p r : ℕ) → p ≤ table_fault_place f → p ≤ r → From p (checked t f (Ok (a, r)))
from_checked true a f p r l m = m
from_checked false a f p r l m = l

-- what is read behind the number at p, from r on
pub record Rest (n p r : ℕ) {A : Type 0} (x y : Read A) : Type 0 where
  pub along : r ≤ n → Goes n x y
  pub from : From p y

-- what is read from p on
abbrev pub Runs : (n p : ℕ) {A : Type 0} → Read A → Read A → Type 0
Runs n p x y = Rest n p p x y

module _ {n : ℕ} where
  pub number_then : {A B : Type 0} {p : ℕ} {x y : Read A} {k k' : A → ℕ → Read B} → One n p x y → ((a : A) (r : ℕ) → p ≤ r → Rest n p r (k a r) (k' a r)) → Runs n p (then x k) (then y k')
  number_then {p = p} (whole {a} {q} l m) f = record { along = λ _. (f a q l).along m; from = (f a q l).from }
  number_then {p = p} (wrong e) f = record { along = λ l. refuses (omega arith); from = omega arith }
  number_then {p = p} {k' = k'} (short {y} l h) f = let w = from_then y k' p h (λ a r m. (f a r m).from) in record { along = λ m. cuts m l w; from = w }
  number_then {p = p} {k' = k'} (behind {y = y} l h) f = record { along = λ m. absurd (omega arith); from = from_then y k' p h (λ a r m. (f a r m).from) }

  pub step_then : {A B : Type 0} {p : ℕ} {x y : Read A} {k k' : A → ℕ → Read B} → Runs n p x y → ((a : A) (r : ℕ) → Runs n r (k a r) (k' a r)) → Runs n p (then x k) (then y k')
  step_then {A} {B} {p} {x} {y} {k} {k'} w f =
      record { along = λ l. go (w.along l); from = from_then y k' p w.from (λ a r m. from_up (k' a r) p r m (f a r).from) }
    where
      go : {x y : Read A} → Goes n x y → Goes n (then x k) (then y k')
      go (gives {a} {q} l) = (f a q).along l
      go (refuses l) = refuses l
      go (cuts {p = c} {y = z} l m h) = cuts l m (from_then z k' c h (λ a r m. from_up (k' a r) c r m (f a r).from))

  pub one_step : {A : Type 0} {p : ℕ} {x y : Read A} → One n p x y → Runs n p x y
  one_step (whole l m) = record { along = λ _. gives m; from = l }
  one_step (wrong e) = record { along = λ l. refuses (omega arith); from = omega arith }
  one_step (short l h) = record { along = λ m. cuts m l h; from = h }
  one_step (behind l h) = record { along = λ m. absurd (omega arith); from = h }

  -- a test of the number at p
  pub checked_one : {A B : Type 0} {p : ℕ} {x y : Read A} (test : A → Bool) (make : A → B) (f : TableFault) → table_fault_place f ≡ p → One n p x y
      → One n p (then x (λ a q. checked (test a) f (Ok (make a, q)))) (then y (λ a q. checked (test a) f (Ok (make a, q))))
  checked_one {A} {B} {p} test make f e (whole {a} {q} l m) = go (test a)
    where
      go : (t : Bool) → One n p (checked t f (Ok (make a, q))) (checked t f (Ok (make a, q)))
      go true = whole l m
      go false = wrong e
  checked_one test make f e (wrong g) = wrong g
  checked_one {p = p} test make f e (short {y} l h) = short l (from_then y _ p h (λ a r m. from_checked (test a) (make a) f p r (omega arith) m))
  checked_one {p = p} test make f e (behind {y = y} l h) = behind l (from_then y _ p h (λ a r m. from_checked (test a) (make a) f p r (omega arith) m))

  pub run_ends : {A : Type 0} (a : A) (p : ℕ) → Runs n p (Ok (a, p)) (Ok (a, p))
  run_ends a p = record { along = gives; from = omega arith }

  -- what may stand behind a number
  pub rest_gives : {A : Type 0} {p r : ℕ} (a : A) → p ≤ r → Rest n p r (Ok (a, r)) (Ok (a, r))
  rest_gives a l = record { along = gives; from = l }

  pub rest_refuses : {A : Type 0} {p r : ℕ} (f : TableFault) → table_fault_place f ≡ p → p ≤ r → Rest n p r {A = A} (Err f) (Err f)
  rest_refuses f e l = record { along = λ m. refuses (omega arith); from = omega arith }

  pub rest_runs : {A : Type 0} {p r : ℕ} {x y : Read A} → p ≤ r → Runs n r x y → Rest n p r x y
  rest_runs {p = p} {r} {y = y} l w = record { along = w.along; from = from_up y p r l w.from }

  pub rest_cond : {A : Type 0} {p r : ℕ} (t : Bool) {x x' y y' : Read A} → Rest n p r x x' → Rest n p r y y' → Rest n p r (cond t x y) (cond t x' y')
  rest_cond true h k = h
  rest_cond false h k = k

  pub rest_checked : {A : Type 0} {p r : ℕ} (t : Bool) (f : TableFault) {x y : Read A} → table_fault_place f ≡ p → p ≤ r → Rest n p r x y → Rest n p r (checked t f x) (checked t f y)
  rest_checked true f e l h = h
  rest_checked false f e l h = rest_refuses f e l

  pub counted_run : {A : Type 0} {item item' : List A → ℕ → Read A} → ((acc : List A) (p : ℕ) → Runs n p (item acc p) (item' acc p)) → (k : ℕ) (acc : List A) (p : ℕ) → Runs n p (counted item k acc p) (counted item' k acc p)
  counted_run law zero acc p = run_ends acc p
  counted_run law (suc k) acc p = step_then (law acc p) (λ a q. counted_run law k (acc ++ a ∷ []) q)

from_cond : {A : Type 0} (p : ℕ) (t : Bool) (x y : Result (A × ℕ) NumberFault) → From p (lifted x) → From p (lifted y) → From p (lifted (cond t x y))
from_cond p true x y h k = h
from_cond p false x y h k = k

from_groups : (s g v m at : ℕ) (bs : List ℕ) → s ≤ at → From s (lifted (groups s g v m at bs))
from_groups s g v m at [] l = omega arith
from_groups s g v m at (b ∷ bs) l =
    from_cond s (oversize_at g b) _ _ (omega arith)
    (from_cond s (ltb b 128) _ _ (from_cond s (padding_at g b) _ _ (omega arith) (omega arith)) (from_groups s (g + 1) (v + m * (b - 128)) (m * 128) (at + 1) bs (omega arith)))

module _ {n : ℕ} where
  one_cond : {A : Type 0} (p : ℕ) (t : Bool) (x x' y y' : Result (A × ℕ) NumberFault) → One n p (lifted x) (lifted x') → (t ≡ false → One n p (lifted y) (lifted y')) → One n p (lifted (cond t x y)) (lifted (cond t x' y'))
  one_cond p true x x' y y' h k = h
  one_cond p false x x' y y' h k = k refl

  -- the groups of a number, of which g stand before, and no more than four with others behind
  groups_go : (s g v m at : ℕ) (bs more : List ℕ) → s ≤ n → at ≡ s + g → g < most_groups → at + length bs ≡ n → One n s (lifted (groups s g v m at bs)) (lifted (groups s g v m at (bs ++ more)))
  groups_go s g v m at [] more l e g4 h = short (omega arith) (from_groups s g v m at more (omega arith))
  groups_go s g v m at (b ∷ bs) more l e g4 h =
      one_cond s (oversize_at g b) _ _ _ _ (wrong refl) (λ small.
      one_cond s (ltb b 128) _ _ _ _ (one_cond s (padding_at g b) _ _ _ _ (wrong refl) (λ _. whole (omega arith) (omega arith))) (λ high.
      groups_go s (g + 1) (v + m * (b - 128)) (m * 128) (at + 1) bs more l (omega arith) (fifth g b small high g4) (omega arith)))
    where
      fifth : (g b : ℕ) → oversize_at g b ≡ false → ltb b 128 ≡ false → g < most_groups → g + 1 < most_groups
      fifth g b small high g4 = grind (arith, nat_tests)

module _ (file more : List ℕ) where
  pub any_one : (p : ℕ) → One (length file) p (any_at file p) (any_at (file ++ more) p)
  unfolding number_at
  any_one p = elim (cases_lt (length file) p) [
    | inl l ↦ behind l (from_groups p 0 0 1 p (drop p (file ++ more)) (omega arith))
    | inr l ↦
        (let d = length-drop p file in
        subst (λ bs. One (length file) p (any_at file p) (lifted (groups p 0 0 1 p bs))) (sym (drop-append-le p file more l))
        (groups_go p 0 0 1 p (drop p file) more l (omega arith) (omega arith) (omega arith)))
  ]

  pub at_most_one : (most p : ℕ) → One (length file) p (at_most file most p) (at_most (file ++ more) most p)
  at_most_one most p = checked_one (λ k. leb k most) (λ k. k) (Outside p) refl (any_one p)
