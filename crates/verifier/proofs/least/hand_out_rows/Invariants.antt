-- The rows so far are as they are handed out, and the others are as they were.
use Rattle.std.proofs.Common.{◌≡◌, ◌*◌, take, drop}
use Rattle.walk.specs.Limits.{width}
use Rattle.walk.specs.Rows.{table}
use Rattle.type_rows.specs.Frameworks.{method_framework}
use Rattle.type_rows.specs.Typings.{rows_of}
use Rattle.verifier.specs.LeastTables.{table_numbers}
use Rattle.verifier.proofs.least.hand_out_rows.Given as goal

abbrev pub invariant-loop-i : goal.invariant-loop-i
invariant-loop-i l = (take (l.i * width) l.workspace ≡ table_numbers (rows_of (table (method_framework l.method) l.initial.workspace)) l.i) × (drop (l.i * width) l.workspace ≡ drop (l.i * width) l.initial.workspace)
