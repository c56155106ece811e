-- A history of calls that was performed, and the promise about it.
use Rattle.std.proofs.Common.{◌≡◌, ℕ, List, length, take, drop}
use mathlib.Core.Logic.{∥∥₁_map}
use Rattle.heap.specs.Meaning.{Meaning}
use Rattle.format.proofs.WellFormed.{kept_is_well_formed}
use Rattle.jinja.specs.declared.answer.Reply.{Reply}
use Rattle.jinja.specs.Program.{Program}
use Rattle.jinja.specs.State.{State, made}
use Rattle.jinja.specs.History.{after, replies}
use Rattle.jinja.proofs.History.{promise_kept}
use Rattle.verifier.specs.declared.accepted.Accepted.{Accepted}
use Rattle.verifier.specs.Accepted.{accepted_program}
use Rattle.machine.specs.declared.call.Call.{Call}
use Rattle.machine.specs.Asked.{all_asked}
use Rattle.machine.specs.Histories.{Kept, Told}

kept : (a : Accepted) (h : Meaning) (number : ℕ) (calls : List Call) → ∥ (Kept (accepted_program a) h number calls) ∥₁
kept a h number calls =
    let P = accepted_program a in
    ∥∥₁_map a.typed (λ t. record { typings = t.tables; least = t.least; promise = promise_kept (kept_is_well_formed P a.set.kept) (λ k M e. (t.least k M e).typing) h number (all_asked calls) })

pub told : (a : Accepted) (h : Meaning) (number : ℕ) (calls : List Call) (before written : List Reply) (P : Program) (start end : State) → P ≡ accepted_program a → start ≡ made h number → end ≡ after P (all_asked calls) start → take (length calls) written ≡ replies P (all_asked calls) start → drop (length calls) written ≡ drop (length calls) before → Told (accepted_program a) h number calls before written end
told a h number calls before written P start end ep es ee er ed =
    record {
      leaves = rw (ep, es) at ee;
      answers = rw (ep, es) at er;
      behind = ed;
      kept = kept a h number calls;
    }
