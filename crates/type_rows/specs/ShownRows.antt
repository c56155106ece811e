-- What the first number of a row says of the row. Assumes nothing.
use Rattle.std.specs.Prelude.{◌≡◌, ℕ, suc, ◌<◌, ◌≤◌}
use Rattle.format.specs.Limits.{max_height}
use Rattle.type_rows.specs.declared.row.Shown.{Shown}
use Rattle.type_rows.specs.declared.row.Shown.TheVariants.{Unreached, Reached, Clash}

abbrev pub ShownBy : ℕ → Shown → Type 0
ShownBy first Unreached = first ≡ 0
ShownBy first (Reached h) = (0 < first) × (first ≤ suc max_height) × (first ≡ suc h)
ShownBy first Clash = suc max_height < first
