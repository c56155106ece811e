use Rattle.std.proofs.Common.{add-one, arith}
use lib.Seq.{take-set-lt}
use Rattle.std.proofs.lemmas.List.{length-take-le}
use Rattle.engine.specs.Views.{frame_of}
use Rattle.engine.proofs.Moves.{store_goes}
use Rattle.engine.proofs.frame.Frame.store.Goals as goal

pub returns : goal.returns
returns c P M =
    let f = c.args.self.now in
    let n = c.args.n in
    let v = c.in_ok-value.value in
    let l = length-take-le f.register_count f.registers (omega arith) in
    let t = take-set-lt f.register_count f.registers n v (omega arith) in
    record {
      does = store_goes P M n (frame_of f) (frame_of c.go.new.self) v _ c.in_ok-value.ensures.seen (omega (arith, l)) (simp (add-one, t) at c.go.ensures);
      keeps = λ e. cc;
    }
