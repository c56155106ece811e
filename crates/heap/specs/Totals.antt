-- What any calls keep from an emptied heap on: no line's use passes its total.
use Rattle.std.specs.Prelude.{◌≡◌, ℕ, ◌≤◌, List, [], ◌∷◌, length}
use Rattle.std.specs.List.{AllByRecursion}
use Rattle.heap.specs.declared.value.Value.{Value}
use Rattle.heap.specs.Meaning.{Meaning, used}
use Rattle.heap.specs.Calls.{after_add, after_empty, after_write}
use Rattle.heap.specs.Lawful.{word_limit}

abbrev pub WithinTotals : Meaning → Type 0
WithinTotals m = AllByRecursion (λ l. used l m.objects ≤ l.total) m.lines

-- a call that changes a heap, and what a list of calls leaves, the first one first
pub data Call : Type 0 where
  add : ℕ → List Value → Call
  empty : Call
  write : ℕ → ℕ → Value → Call

abbrev pub after_call : Call → Meaning → Meaning
after_call (add c vs) m = after_add m c vs
after_call empty m = after_empty m
after_call (write a i v) m = after_write m a i v

abbrev pub after_calls : List Call → Meaning → Meaning
after_calls [] m = m
after_calls (k ∷ ks) m = after_calls ks (after_call k m)

-- after any calls the lines are the same, no use passes its total, and 16 bits hold every address
pub record KeepsLines (m : Meaning) : Type 0 where
  pub lines : (ks : List Call) → (after_calls ks m).lines ≡ m.lines
  pub within : (ks : List Call) → WithinTotals (after_calls ks m)
  pub few : (ks : List Call) → length (after_calls ks m).objects ≤ word_limit
