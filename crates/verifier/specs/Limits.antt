-- How long a workspace is at least: a row of 33 numbers for each of 256 instructions. Assumes nothing.
use Rattle.std.specs.Prelude.{ℕ, ◌*◌}
use Rattle.walk.specs.Limits.{width, most_nodes}

abbrev pub workspace_length : ℕ
workspace_length = most_nodes * width
