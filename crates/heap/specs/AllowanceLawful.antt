-- An allowance over a lawful heap is lawful.
use Rattle.heap.specs.declared.charge.ChargeLine.{ChargeLine}
use Rattle.heap.specs.Meaning.{Meaning}
use Rattle.heap.specs.Calls.{under}
use Rattle.heap.specs.Lawful.{Lawful, SmallLine, below}

pub under_lawful : (l : ChargeLine) (m : Meaning) → SmallLine l → Lawful m → Lawful (under l m)
under_lawful l m s w =
    record {
      few = w.few;
      short = w.short;
      lines = record { small = (s, w.lines.small); charged = below w.lines.charged };
    }
