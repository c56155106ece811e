-- The numbers up to the index are put.
use Rattle.std.proofs.Common.{take}
use Rattle.std.specs.List.{flat_map}
use Rattle.number.specs.Numbers.{bytes}
use Rattle.number.specs.Puts.{Put, pen_of}
use Rattle.writer.proofs.numbers.put_numbers.Given as goal

abbrev pub invariant-loop-n : goal.invariant-loop-n
invariant-loop-n l = Put (pen_of l.initial.pen) (pen_of l.pen) (flat_map bytes (take l.n-index l.numbers))
