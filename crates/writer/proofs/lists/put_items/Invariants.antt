-- The items up to the index are put.
use Rattle.std.proofs.Common.{take}
use Rattle.std.specs.List.{flat_map}
use Rattle.number.specs.Puts.{Put, pen_of}
use Rattle.writer.proofs.lists.put_items.Given as goal

abbrev pub invariant-loop-x : goal.invariant-loop-x
invariant-loop-x g l = Put (pen_of l.initial.pen) (pen_of l.pen) (flat_map (g.T.Item.stands l.tables) (take l.x-index l.items))
