-- The type under the arguments is the receiver's.
use Rattle.type_rows.specs.TypeFrames.{frame_types}
use Rattle.type_rows.proofs.CallTypes.{receiver_seen}
use Rattle.type_rows.proofs.calls.receiver.Goals as goal

pub returns : goal.returns
returns c = let r = receiver_seen (frame_types c.args.frame.now) c.args.n c.below.result c.below.ensures in record { operands = r.are; held = r.held }
