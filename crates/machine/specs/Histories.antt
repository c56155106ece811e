-- What a history of calls on a machine in memory comes to. Assumes nothing.
use Rattle.std.specs.Prelude.{◌≡◌, ℕ, List, length, take, drop}
use Rattle.heap.specs.Meaning.{Meaning}
use Rattle.jinja.specs.declared.answer.Reply.{Reply}
use Rattle.jinja.specs.Program.{Program}
use Rattle.jinja.specs.Rows.{Table}
use Rattle.jinja.specs.WellTyping.{LeastTypings}
use Rattle.jinja.specs.State.{State, made}
use Rattle.jinja.specs.History.{after, replies}
use Rattle.jinja.specs.Promise.{Promise}
use Rattle.machine.specs.declared.call.Call.{Call}
use Rattle.machine.specs.Asked.{all_asked}

-- the least well-typings of all methods, and the promise about histories with them
pub record Kept (P : Program) (h : Meaning) (number : ℕ) (calls : List Call) : Type 0 where
  pub typings : ℕ → Table
  pub least : LeastTypings P typings
  pub promise : Promise P typings h number (all_asked calls)

-- the calls on a machine of that number, made from the program P over a heap of the meaning h: the replies are written
-- over those that stood there before, the machine is left in the state `end`, and the promise holds
pub record Told (P : Program) (h : Meaning) (number : ℕ) (calls : List Call) (before written : List Reply) (end : State) : Type 0 where
  pub leaves : end ≡ after P (all_asked calls) (made h number)
  pub answers : take (length calls) written ≡ replies P (all_asked calls) (made h number)
  pub behind : drop (length calls) written ≡ drop (length calls) before
  pub kept : ∥ (Kept P h number calls) ∥₁
