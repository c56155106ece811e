-- New objects: where one goes, and the heap with it. Where there is no room, the heap stays. Assumes nothing.
use Rattle.std.specs.Prelude.{◌≡◌, ℕ, ◌+◌, ◌<◌, ◌≤◌, cond, List, length, get_or, Some, None, Option, slice_index_or}
use Rattle.heap.specs.declared.value.Value.{Value}
use Rattle.heap.specs.declared.value.Value.TheVariants as value
use Rattle.heap.specs.Meaning.{Meaning, admits}
use Rattle.heap.specs.Calls.{with_object}
use Rattle.jinja.specs.Classes.{maybe}
use Rattle.jinja.specs.declared.program.Field.{Field}
use Rattle.jinja.specs.Program.{Program}
use Rattle.jinja.specs.Values.{start_value}
use Rattle.jinja.specs.Calls.{add_object}

-- an object of class c with this row
abbrev pub appended : Meaning → ℕ → List Value → Option ℕ × Meaning
appended h c row = cond (admits h (length row)) (Some (length h.objects), with_object h c row) (None, h)

-- an object of class c with the values that its fields start with
abbrev pub created : Program → Meaning → ℕ → Option ℕ × Meaning
created P h c = maybe (add_object P h c) (None, h) (λ g. (Some (length h.objects), g))

-- from the place s on stands what these fields start with
abbrev pub Started : List Field → ℕ → List Value → Type 0
Started fs s vs = (i : ℕ) (d : Field) → i < length fs → slice_index_or vs (s + i) value.Unit ≡ start_value (get_or fs i d).ty

-- from the place s on nothing has changed
abbrev pub SameFrom : ℕ → List Value → List Value → Type 0
SameFrom s vs ws = (k : ℕ) → s ≤ k → slice_index_or ws k value.Unit ≡ slice_index_or vs k value.Unit
