use Rattle.std.proofs.Common.{refl}
use Rattle.engine.specs.Views.{frame_of}
use Rattle.engine.proofs.Moves.{add_goes, add_refuses}
use Rattle.engine.proofs.frame.Frame.add.Goals as goal

pub returns-in_err-total : goal.returns-in_err-total
returns-in_err-total c P M e = record { does = rw c.from_residual-in_err-total.ensures (add_refuses P M (frame_of c.args.self.now) c.in_ok-v.ensures.seen c.in_err-total.ensures); keeps = λ _. refl }

pub returns : goal.returns
returns c P M e =
    record {
      does = add_goes P M c.in_ok-v.ensures.seen c.in_ok-total.ensures c.onward.ensures e;
      keeps = c.onward.ensures.kept;
    }
