-- What an edge sends, told by where it ends and by the row that was written. Assumes nothing.
use Rattle.std.specs.Prelude.{ℕ, List, Option}
use Rattle.jinja.specs.declared.ty.Ty.{Ty}
use Rattle.jinja.specs.Classes.{maybe}
use Rattle.jinja.specs.Rows.{Cell, reached}
use Rattle.walk.specs.Flow.{Sent, nothing, sent}
use Rattle.type_rows.specs.Merging.{Merge, merged}

abbrev pub sent_to : Option ℕ → List Ty → List Cell → Sent Merge
sent_to r st lt = maybe r nothing (λ k. sent k (merged (reached st lt)))
