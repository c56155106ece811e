-- The number that users know each answer and refusal by.
use Rattle.std.specs.Prelude.{ℕ}
use Rattle.jinja.specs.declared.answer.Answer.{Answer}
use Rattle.jinja.specs.declared.answer.Answer.TheVariants as answer
use Rattle.jinja.specs.declared.answer.Refusal.{Refusal}
use Rattle.jinja.specs.declared.answer.Refusal.TheVariants as refusal

abbrev pub answer_number : Answer → ℕ
answer_number answer.Stepped = 0
answer_number answer.Finished = 1
answer_number answer.Uncaught = 2
answer_number answer.FramesFull = 3
answer_number answer.Unsound = 4

abbrev pub refusal_number : Refusal → ℕ
refusal_number refusal.Busy = 12
refusal_number refusal.Unseen = 13
refusal_number refusal.Argument = 14
refusal_number refusal.NoSpace = 15
refusal_number refusal.Idle = 16
refusal_number refusal.Ticket = 17
