use Rattle.std.proofs.Math.Seq.{take-set-lt}
use Rattle.filled.proofs.filled.Filled.replace.Goals as goal

-- the place lies before the end of what is filled
pub returns-clause-after : goal.returns-clause-after
returns-clause-after g c = take-set-lt _ _ _ _ c.if-i-self.false
