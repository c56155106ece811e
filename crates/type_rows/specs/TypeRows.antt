-- Type rows of a method as a framework that is walked. Assumes nothing.
use Rattle.std.specs.Prelude.{◌≡◌, ℕ, ◌≤◌, length, Some}
use Rattle.jinja.specs.Program.{Program}
use Rattle.jinja.specs.Lookups.{Owned, method_at}
use Rattle.jinja.specs.WellFormed.{WellFormed}
use Rattle.jinja.specs.Rows.{unreached, registers}
use Rattle.walk.specs.Limits.{most_nodes}
use Rattle.walk.specs.Framework.{Framework}
use Rattle.type_rows.specs.Merging.{Merge, merged, merge, InUse, left}
use Rattle.type_rows.specs.MergeLaws.{merge_lattice}
use Rattle.type_rows.specs.MethodFlow.{method_flow}
use Rattle.type_rows.specs.FlowLaws.{method_monotone}
use Rattle.type_rows.specs.Numbers.{Shows, read_row}

-- the method of the number k in a program that keeps the rules, with at most 256 instructions
abbrev pub type_rows : (P : Program) (M : Owned) (k : ℕ) → WellFormed P → method_at P k ≡ Some M → length M.method.code ≤ most_nodes → Framework
type_rows P M k w m few = record {
  Row = Merge;
  good = InUse P M;
  bottom = merged unreached;
  join = merge P;
  left = left P M;
  lattice = merge_lattice w;
  flow = method_flow P M;
  monotone = method_monotone w k m few;
  shows = Shows P M;
  read = read_row (registers M);
}
