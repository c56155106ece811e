use Rattle.std.proofs.Common.{[], ◌∷◌, ap, ◌∙◌}
use Rattle.engine.proofs.Tops.{lowest_set}
use Rattle.engine.proofs.opening.open_lowest.Goals as goal

pub returns : goal.returns
returns c = lowest_set c.args.frames.now 0 c.open.new.self c.requires.some ∙ ap (λ f. f ∷ []) c.open.ensures
