-- Tickets and calls, as the subject has them. Assumes nothing.
use Rattle.std.specs.Prelude.{◌≡◌, ℕ, List, map, Ok, Err, Result}
use Rattle.jinja.specs.declared.answer.Refusal.{Refusal}
use Rattle.jinja.specs.declared.answer.Ended.{Ended}
use Rattle.jinja.specs.declared.answer.Reply.{Reply}
use Rattle.jinja.specs.declared.answer.Reply.TheVariants.{Refused}
use Rattle.jinja.specs.Calls.{Call as Asked, begins, steps, runs, ends}
use Rattle.machine.specs.declared.call.Call.{Call}
use Rattle.machine.specs.declared.call.Call.TheVariants.{Begin, Step, Run, End}
use Rattle.machine.specs.declared.ticket.Ticket.{Ticket}

-- a begin is answered with the number of its ticket
abbrev pub numbered : Result Ticket Refusal → Result ℕ Refusal
numbered (Ok t) = Ok t.machine
numbered (Err e) = Err e

-- a refused end, without the ticket that it hands back
abbrev pub told : Result Ended (Refusal × Ticket) → Result Ended Refusal
told (Ok e) = Ok e
told (Err e) = Err e.0

-- a refused end hands the ticket back
abbrev pub HandedBack : Ticket → Result Ended (Refusal × Ticket) → Type 0
HandedBack t (Ok e) = Unit {0}
HandedBack t (Err e) = e.1 ≡ t

-- a refusal is an answer too
abbrev pub said : Result Reply Refusal → Reply
said (Ok r) = r
said (Err e) = Refused e

abbrev pub asked : Call → Asked
asked (Begin c m args) = begins c m args.now
asked Step = steps
asked (Run n) = runs n
asked (End t) = ends t

abbrev pub all_asked : List Call → List Asked
all_asked cs = map asked cs
