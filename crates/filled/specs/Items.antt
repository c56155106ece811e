-- The items of a list in fixed memory.
use Rattle.std.specs.Prelude.{ℕ, List, take}
use Rattle.filled.specs.declared.filled.Filled.{Filled}

-- the first places of the array, as many as are filled
abbrev pub items_of : {T : Type 0} {N : ℕ} → Filled T N → List T
items_of f = take f.len f.cells
