-- How many objects a strip has, and how long their rows are.
use Rattle.std.specs.Prelude.{◌≡◌, ℕ, zero, suc, ◌+◌, ◌<◌, ◌≤◌, length, slice_index_or}
use Rattle.std.proofs.Common.{ap, ◌∙◌, arith}
use Rattle.std.specs.List.{AllByRecursion}
use Rattle.std.proofs.lemmas.List.FromFn.{length-map-range_with_len, get_or-map-range_with_len}
use Rattle.std.proofs.ByRecursion.{All-from_get_or}
use Rattle.heap.specs.Meaning.{row_limit}
use Rattle.heap.specs.Calls.{no_object}
use Rattle.cell_heap.specs.Strip.{Reading, start, row_from, object_from, objects_of}

module _ {X : Type 0} (k : Reading X) (f : ℕ → X) where
  pub row_length : (p : ℕ) → length (row_from k f p) ≡ k.len (f p)
  row_length p = length-map-range_with_len (λ j. k.value (f (p + (1 + j)))) 0 (k.len (f p))

  pub objects_length : (n : ℕ) → length (objects_of k f n) ≡ n
  objects_length n = length-map-range_with_len (λ a. object_from k f (start k f a)) 0 n

  pub object_there : (n a : ℕ) → a < n → slice_index_or (objects_of k f n) a no_object ≡ object_from k f (start k f a)
  object_there n a l = get_or-map-range_with_len (λ b. object_from k f (start k f b)) 0 n a a no_object l (omega arith)

  pub rows_short : (n : ℕ) → AllByRecursion (λ o. length o.row ≤ row_limit) (objects_of k f n)
  rows_short n =
      All-from_get_or (λ o. length o.row ≤ row_limit) (objects_of k f n) no_object
      (λ a l.
      let e = ap (λ o. length o.row) (object_there n a (rw objects_length at l)) ∙ row_length (start k f a) in
      let h = k.short (f (start k f a)) in
      omega arith)

  -- each object takes a cell at least
  pub start_up : (n : ℕ) → n ≤ start k f n
  start_up zero = omega arith
  start_up (suc n) = let h = start_up n in omega arith
