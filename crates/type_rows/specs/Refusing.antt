-- The tests by which an instruction refuses a row: its needs, where its edges end, and its handlers. Assumes nothing.
use Rattle.std.specs.Prelude.{ℕ, Bool, true, cond, ◌&&◌, List, nat_le, nat_lt}
use Rattle.std.specs.List.{list_all}
use Rattle.jinja.specs.declared.instr.Instr.{Instr}
use Rattle.jinja.specs.declared.program.Handler.{Handler}
use Rattle.jinja.specs.Program.{Program}
use Rattle.jinja.specs.Classes.{is_class}
use Rattle.jinja.specs.Transfer.{is_relevant}

-- a handler's class exists, its depth suits the height under the limit, and its target lies before the end
abbrev pub handler_suits : Program → Handler → ℕ → ℕ → ℕ → Bool
handler_suits P x height limit end = is_class P x.class && nat_le x.depth height && nat_lt x.depth limit && nat_lt x.target end

-- a handler that is not relevant may be as it likes
abbrev pub handler_passes : Program → Instr → ℕ → ℕ → ℕ → ℕ → Handler → Bool
handler_passes P i pc height limit end x = cond (is_relevant P i pc x) (handler_suits P x height limit end) true

abbrev pub handlers_pass : Program → Instr → ℕ → ℕ → ℕ → ℕ → List Handler → Bool
handlers_pass P i pc height limit end xs = list_all (handler_passes P i pc height limit end) xs
