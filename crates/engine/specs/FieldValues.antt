-- The values of an object's fields, as Getfield takes and Putfield changes them. Assumes nothing.
use Rattle.std.specs.Prelude.{ℕ, List, [], ◌∷◌, drop, Some, None, Option}
use Rattle.std.specs.List.{slice_get}
use Rattle.heap.specs.declared.value.Value.{Value}
use Rattle.heap.specs.Meaning.{Meaning}
use Rattle.jinja.specs.declared.program.FieldPlace.{FieldPlace}
use Rattle.jinja.specs.Options.{◌>>=◌, ◌>>◌}
use Rattle.jinja.specs.Program.{Program}
use Rattle.jinja.specs.Classes.{at_or_below}
use Rattle.jinja.specs.Step.{Frame, Next, put}
use Rattle.jinja.specs.Values.{fits}

-- what stands at a place of the object at a
abbrev pub value_at : Meaning → ℕ → ℕ → Option Value
value_at h a i = slice_get h.objects a >>= λ o. slice_get o.row i

-- the value of the field x that the class c declares, of the object at a
abbrev pub field_value : Program → Meaning → FieldPlace → ℕ → ℕ → Option Value
field_value P h x c a = slice_get h.objects a >>= λ o. at_or_below P o.class c >> (slice_get o.row x.place >>= λ v. fits P h v x.ty >> Some v)

-- v at the place of the field x of the object at a, from the top frame
abbrev pub put_top : Program → Meaning → FieldPlace → ℕ → ℕ → Value → List Frame → Option Next
put_top P h x c a v [] = None
put_top P h x c a v (f ∷ rest) = put P h x c a v f (drop 2 f.stack) rest
