-- What a call takes off the stack: its arguments in the order in which they were pushed, and the receiver. Assumes nothing.
use Rattle.std.specs.Prelude.{◌≡◌, ℕ, suc, ◌≤◌, List, [], ◌∷◌, reverse, length, take, drop, Some, None, Option}
use Rattle.jinja.specs.declared.ty.Ty.{Ty}
use Rattle.jinja.specs.Program.{Program}
use Rattle.jinja.specs.Classes.{maybe}
use Rattle.jinja.specs.Options.{◌>>=◌, ◌>>◌}
use Rattle.jinja.specs.Lookups.{Owned, method_at}
use Rattle.jinja.specs.Rows.{Cell}
use Rattle.jinja.specs.Rule.{Operands, operands, Edge, next}
use Rattle.jinja.specs.Transfer.{types_le, can_push}

-- the n topmost, the lowest first
abbrev pub arguments : ℕ → List Ty → List Ty
arguments n st = reverse (take n st)

-- what a call of n arguments on a receiver of type t takes
abbrev pub call_operands : ℕ → List Ty → Ty → Operands Ty
call_operands n st t = operands (arguments n st) t (drop (suc n) st)

-- the type with i types above it; none exactly where there are no more than i
abbrev pub SeenType : List Ty → ℕ → Option Ty → Type 0
SeenType st i None = length st ≤ i
SeenType st i (Some t) = drop i st ≡ t ∷ drop (suc i) st

-- the types of the method k; what is no method has none
abbrev pub params_at : Program → ℕ → List Ty
params_at P k = maybe (method_at P k) [] (λ N. N.method.params)

abbrev pub result_at : Program → ℕ → Option Ty
result_at P k = maybe (method_at P k) None (λ N. Some N.method.result)

-- what a call of the method k sends, with these arguments and what stays on the stack
abbrev pub called : Program → Owned → ℕ → ℕ → List Cell → List Ty → List Ty → Option (List Edge)
called P M k pc lt args rest = result_at P k >>= λ t. types_le P args (params_at P k) >> (can_push M rest >> Some (next pc (t ∷ rest) lt))
