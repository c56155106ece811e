-- The machine's look-ups in a heap are what the heap's calls answer. Assumes nothing.
use Rattle.std.specs.Prelude.{◌≡◌, ℕ, Some, Ok, Err, Option}
use Rattle.std.specs.List.{slice_get}
use Rattle.heap.specs.declared.fault.HeapFault.TheVariants.{NoObject}
use Rattle.heap.specs.declared.value.Value.{Value}
use Rattle.heap.specs.Meaning.{Meaning}
use Rattle.heap.specs.Calls.{class_answer, read_answer, after_write, with_value}
use Rattle.jinja.specs.Options.{◌>>=◌}
use Rattle.jinja.specs.Classes.{maybe}
use Rattle.jinja.specs.Values.{class_of}

-- the value at a place of the row of the object at an address
abbrev pub field_at : Meaning → ℕ → ℕ → Option Value
field_at h a i = slice_get h.objects a >>= λ o. slice_get o.row i

pub record HeapLaws (h : Meaning) : Type 0 where
  pub class_is : (a : ℕ) → class_answer h a ≡ maybe (class_of h a) (Err NoObject) (λ c. Ok c)
  pub field_is : (a i : ℕ) → read_answer h a i ≡ maybe (field_at h a i) (Err NoObject) (λ v. Ok v)
  pub written : {w : Value} (a i : ℕ) (v : Value) → field_at h a i ≡ Some w → after_write h a i v ≡ with_value h a i v

abbrev pub HeapLawsHold : Type 0
HeapLawsHold = (h : Meaning) → HeapLaws h
