-- Registers: what is loaded from one. Assumes nothing.
use Rattle.std.specs.Prelude.{ℕ, ◌<◌, List, Option}
use Rattle.std.specs.List.{slice_get, AllByRecursion}
use Rattle.jinja.specs.declared.ty.Ty.{Ty}
use Rattle.jinja.specs.Options.{◌>>=◌}
use Rattle.jinja.specs.Rows.{Cell}
use Rattle.jinja.specs.Transfer.{cell_type}
use Rattle.jinja.specs.Types.{type_number}
use Rattle.type_rows.specs.Numbers.{absent}

-- the type of a register that exists and is usable
abbrev pub loaded : List Cell → ℕ → Option Ty
loaded lt n = slice_get lt n >>= cell_type

-- each type's number is told from an absent one
abbrev pub Told : List Ty → Type 0
Told st = AllByRecursion (λ t. type_number t < absent) st
