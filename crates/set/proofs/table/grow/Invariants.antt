-- What is left to read gives the answer.
use Rattle.std.proofs.Common.{◌≡◌, ◌+◌, ◌-◌, [], length, take, drop}
use Rattle.number.specs.Places.{file_of, place_of}
use Rattle.filled.specs.Items.{items_of}
use Rattle.format.specs.Reading.{counted}
use Rattle.set.proofs.table.grow.Given as goal

abbrev pub invariant-loop : goal.invariant-loop
invariant-loop g l = record {
  left : counted (g.T.Item.at (file_of l.initial.c) l.n) (l.count - l.counter) (drop l.first (items_of l.table)) (place_of l.c)
      ≡ counted (g.T.Item.at (file_of l.initial.c) l.n) l.count [] (place_of l.initial.c);
  file : file_of l.c ≡ file_of l.initial.c;
  front : take l.first (items_of l.table) ≡ items_of l.initial.table;
  all : length (items_of l.table) ≡ l.first + l.counter;
}
