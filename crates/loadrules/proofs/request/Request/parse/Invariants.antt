-- Each turn takes a word or more.
use Rattle.std.proofs.Common.{length}
use Rattle.loadrules.proofs.request.Request.parse.Given as goal

abbrev pub decreases-loop-word : goal.decreases-loop-word
decreases-loop-word l = length l.words.left.now
