-- The objects of any heap: how long their rows are, and what they cost.
use Rattle.std.proofs.Common.{◌≡◌, ℕ, ◌+◌, ◌<◌, ◌≤◌, length, take, Ok}
use Rattle.std.proofs.ByRecursion.{All-get_or}
use Rattle.std.proofs.lemmas.List.Sums.{sum_by_more}
use Rattle.std.proofs.lemmas.Bool.{cond-true, lt-ltb}
use Rattle.heap.specs.declared.charge.ChargeLine.{ChargeLine}
use Rattle.heap.specs.Meaning.{Meaning, cost, used, row_limit}
use Rattle.heap.specs.Calls.{has_object, no_object, object_at, row_len_answer}
use Rattle.heap.specs.Lawful.{Lawful}

module _ (m : Meaning) (a : ℕ) (l : a < length m.objects) where
  pub row_len_ok : row_len_answer m a ≡ Ok (length (object_at m a).row)
  row_len_ok = cond-true (has_object m a) _ _ (lt-ltb a _ l)

  pub row_len_is : (n : ℕ) → Ok n ≡ row_len_answer m a → n ≡ length (object_at m a).row
  row_len_is n e = let o = row_len_ok in cc

  pub row_short : Lawful m → length (object_at m a).row ≤ row_limit
  row_short s = All-get_or (λ o. length o.row ≤ row_limit) m.objects a no_object l s.short

  pub used_more : (x : ChargeLine) → used x (take (a + 1) m.objects) ≡ used x (take a m.objects) + cost x (length (object_at m a).row)
  used_more x = sum_by_more (λ o. cost x (length o.row)) m.objects a no_object l
