-- The limit of a slot heap.
use Rattle.std.specs.Prelude.{ℕ}

-- its slots
abbrev pub slot_limit : ℕ
slot_limit = 128
