use Rattle.std.proofs.Common.{◌≡◌, List, length}
use Rattle.std.specs.Iterator.Adapters.{zip_first, zip_second}
use Rattle.std.specs.Slice.Iter.{iter_rest}
use Rattle.heap.specs.declared.charge.ChargeLine.{ChargeLine}
use Rattle.heap.specs.Calls.{vacant}
use Rattle.jinja.specs.Values.{fit_all}
use Rattle.tables.specs.Views.{program_of}
use Rattle.engine.proofs.fitting.fit_alone.Given as goal

-- what is left has to fit, and is even
abbrev pub invariant-loop-v : goal.invariant-loop-v
invariant-loop-v l =
    let vs = iter_rest (zip_first l.v-iterator) in
    let ts = iter_rest (zip_second l.v-iterator) in
    record { all : (ls : List ChargeLine) → fit_all (program_of l.tables) (vacant ls) l.values l.types ≡ fit_all (program_of l.tables) (vacant ls) vs ts; even : length vs ≡ length ts }
