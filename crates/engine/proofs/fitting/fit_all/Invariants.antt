use Rattle.std.proofs.Common.{◌≡◌, length}
use Rattle.std.specs.Iterator.Adapters.{zip_first, zip_second}
use Rattle.std.specs.Slice.Iter.{iter_rest}
use Rattle.jinja.specs.Values.{fit_all}
use Rattle.tables.specs.Views.{program_of}
use Rattle.engine.proofs.fitting.fit_all.Given as goal

-- what is left has to fit, and is even
abbrev pub invariant-loop-v : goal.invariant-loop-v
invariant-loop-v g l =
    let vs = iter_rest (zip_first l.v-iterator) in
    let ts = iter_rest (zip_second l.v-iterator) in
    record { all : fit_all (program_of l.tables) (g.H.Heap.meaning l.heap) l.values l.types ≡ fit_all (program_of l.tables) (g.H.Heap.meaning l.heap) vs ts; even : length vs ≡ length ts }
