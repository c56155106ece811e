-- What is seen of frames, counted from the bottom. Assumes nothing.
use Rattle.std.specs.Prelude.{ℕ, List, Some, Option}
use Rattle.std.specs.List.{slice_get}
use Rattle.heap.specs.declared.value.Value.{Value}
use Rattle.jinja.specs.Options.{◌>>=◌}
use Rattle.jinja.specs.Look.{from_bottom}
use Rattle.jinja.specs.Step.{Frame}

abbrev pub method_seen : List Frame → ℕ → Option ℕ
method_seen fs i = from_bottom fs i >>= λ f. Some f.method

abbrev pub pc_seen : List Frame → ℕ → Option ℕ
pc_seen fs i = from_bottom fs i >>= λ f. Some f.pc

abbrev pub cell_seen : List Frame → ℕ → ℕ → Option Value
cell_seen fs i j = from_bottom fs i >>= λ f. from_bottom f.stack j

abbrev pub register_seen : List Frame → ℕ → ℕ → Option Value
register_seen fs i j = from_bottom fs i >>= λ f. slice_get f.registers j
