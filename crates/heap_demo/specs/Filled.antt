-- A heap that holds the same object again and again.
use Rattle.std.specs.Prelude.{ℕ, List, replicate}
use Rattle.heap.specs.declared.value.Value.{Value}
use Rattle.heap.specs.declared.charge.ChargeLine.{ChargeLine}
use Rattle.heap.specs.Meaning.{Meaning}

abbrev pub holding : List ChargeLine → ℕ → ℕ → List Value → Meaning
holding ls n c vs = record { objects = replicate n (record { class = c; row = vs }); lines = ls }
