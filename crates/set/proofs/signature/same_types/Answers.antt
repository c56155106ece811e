-- Lists of types are equal where their numbers are.
use Rattle.std.proofs.Common.{◌∙◌}
use Rattle.set.proofs.SameTypes.{same_tys}
use Rattle.set.proofs.signature.same_types.Goals as goal

pub returns : goal.returns
returns c = c.eq.ensures ∙ same_tys c.args.ts.now c.args.us.now
