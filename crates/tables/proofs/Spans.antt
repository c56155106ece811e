-- Spans of lists: what lies in one, and what holds of each item.
use Rattle.std.proofs.Common.{◌≡◌, ◌≤◌, List, map, length, drop, ap, ◌∙◌, arith, take}
use Rattle.std.specs.List.{All, AllByRecursion}
use Rattle.std.proofs.lemmas.List.{length-take, length-take-le, length-drop, take-map, drop-map}
use Rattle.std.proofs.ByRecursion.{All-from_get_or}
use Rattle.tables.specs.declared.records.Span.{Span}
use Rattle.format.specs.Limits.{max_classes, max_instrs}
use Rattle.tables.specs.declared.tables.Tables.{Tables}
use Rattle.tables.specs.Spans.{part, Within}
use Rattle.tables.specs.Views.{classes_of, instrs_of}

-- what holds at each place holds of all
pub all_along : {X : Type 0} (P : X → Type 0) (xs : List X) (d : X) → All P xs → AllByRecursion P xs
all_along P xs d h = All-from_get_or P xs d (λ i l. h i d l)

pub length_part : {X : Type 0} (s : Span) (xs : List X) → Within (length xs) s → length (part s xs) ≡ s.count
length_part s xs h = length-take-le s.count (drop s.first xs) (rw length-drop (omega arith))

pub part_map : {X Y : Type 0} (f : X → Y) (s : Span) (xs : List X) → part s (map f xs) ≡ map f (part s xs)
part_map f s xs = ap (take s.count) (drop-map f s.first xs) ∙ take-map f s.count (drop s.first xs)

-- no table has more items than it has room for
module _ (t : Tables) where
  pub few_classes : length (classes_of t) ≤ max_classes
  few_classes = omega (arith, length-take t.classes.len t.classes.cells, t.classes.within)

  pub few_instrs : length (instrs_of t) ≤ max_instrs
  few_instrs = omega (arith, length-take t.instrs.len t.instrs.cells, t.instrs.within)
