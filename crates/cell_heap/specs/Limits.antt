-- The limit of a cell heap.
use Rattle.std.specs.Prelude.{ℕ}

-- its cells
abbrev pub cell_limit : ℕ
cell_limit = 1024
