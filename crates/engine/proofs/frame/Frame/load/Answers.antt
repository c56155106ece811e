use Rattle.std.proofs.Common.{refl}
use Rattle.engine.proofs.Moves.{onward_goes}
use Rattle.engine.proofs.frame.Frame.load.Goals as goal

pub returns-in_err-value : goal.returns-in_err-value
returns-in_err-value c P M e = record { does = λ h rest. rw (← c.in_err-value.ensures, c.from_residual.ensures); keeps = λ _. refl }

pub returns : goal.returns
returns c P M e =
    record {
      does = λ h rest. rw (← c.in_ok-value.ensures) (onward_goes c.onward.result c.onward.ensures M e h rest);
      keeps = c.onward.ensures.kept;
    }
