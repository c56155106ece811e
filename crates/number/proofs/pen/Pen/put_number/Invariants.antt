-- Some bytes are put, and those of the rest are left.
use Rattle.std.proofs.Common.{◌≡◌, ℕ, ◌*◌, ◌^◌, ◌<◌, List, ◌++◌}
use Rattle.number.specs.Numbers.{bytes, bytes_by}
use Rattle.number.specs.Puts.{Put, pen_of}
use Rattle.number.proofs.pen.Pen.put_number.Given as goal

abbrev pub invariant-loop-rest : goal.invariant-loop-rest
invariant-loop-rest l =
    (done : List ℕ) × (k : ℕ) × Put (pen_of l.initial.self) (pen_of l.self) done × (done ++ bytes_by k l.rest ≡ bytes l.n) × (l.rest < 16 * 128 ^ k)

abbrev pub decreases-loop-rest : goal.decreases-loop-rest
decreases-loop-rest l = l.rest
