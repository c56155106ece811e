-- A strip of cells, whatever a cell is: each object is a head, and then its fields.
use Rattle.std.specs.Prelude.{ℕ, zero, suc, ◌+◌, ◌≤◌, List, map}
use Rattle.std.specs.List.{range_with_len}
use Rattle.heap.specs.declared.value.Value.{Value}
use Rattle.heap.specs.Meaning.{Object, row_limit}

-- what a cell says as a head, and as a field
pub record Reading (X : Type 0) : Type 0 where
  pub class : X → ℕ
  pub len : X → ℕ
  pub value : X → Value
  pub short : (x : X) → len x ≤ row_limit

-- where the object n starts
abbrev pub start : {X : Type 0} → Reading X → (ℕ → X) → ℕ → ℕ
start k f zero = 0
start k f (suc n) = start k f n + (1 + k.len (f (start k f n)))

abbrev pub row_from : {X : Type 0} → Reading X → (ℕ → X) → ℕ → List Value
row_from k f p = map (λ j. k.value (f (p + (1 + j)))) (range_with_len 0 (k.len (f p)))

abbrev pub object_from : {X : Type 0} → Reading X → (ℕ → X) → ℕ → Object
object_from k f p = record { class = k.class (f p); row = row_from k f p }

-- the first n objects
abbrev pub objects_of : {X : Type 0} → Reading X → (ℕ → X) → ℕ → List Object
objects_of k f n = map (λ a. object_from k f (start k f a)) (range_with_len 0 n)
