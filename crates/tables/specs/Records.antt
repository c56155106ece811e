-- The record of a class in the tables, and how long a row of theirs can be.
use Rattle.format.specs.Limits.{all_fields}
use Rattle.std.specs.Prelude.{ℕ, ◌-◌, ◌*◌, cond, None, Option, nat_lt}
use Rattle.std.specs.List.{slice_get}
use Rattle.tables.specs.declared.records.ClassRec.{ClassRec}
use Rattle.tables.specs.declared.tables.Tables.{Tables}
use Rattle.tables.specs.Views.{classes_of}

-- the four built-in classes have none
abbrev pub record_at : Tables → ℕ → Option ClassRec
record_at t c = cond (nat_lt c 4) None (slice_get (classes_of t) (c - 4))

-- no row is longer: at most 256 classes stand on the way up, with at most 224 fields each
abbrev pub longest_row : ℕ
longest_row = 256 * all_fields
