-- The rules as a function that runs: what an instruction sends from its row, or nothing where a need fails. Assumes nothing.
use Rattle.std.specs.Prelude.{ℕ, suc, Bool, true, false, cond, ◌&&◌, ◌||◌, List, [], ◌∷◌, ◌++◌, length, Some, None, Option, nat_le, nat_lt, slice_set}
use Rattle.std.specs.List.{slice_get}
use Rattle.jinja.specs.declared.ty.Ty.{Ty}
use Rattle.jinja.specs.declared.ty.Ty.TheVariants.{Void, Boolean, Integer, NullType, Class}
use Rattle.jinja.specs.declared.instr.Instr.{Instr}
use Rattle.jinja.specs.declared.instr.Instr.TheVariants.{Load, Store, Push, Pop, New, Getfield, Putfield, Checkcast, Invoke, Return, IAdd, CmpEq, IfFalse, Goto, Throw}
use Rattle.jinja.specs.declared.program.Handler.{Handler}
use Rattle.jinja.specs.Options.{◌>>=◌, ◌>>◌, Top, top, top_of, Two, two, two_of}
use Rattle.jinja.specs.Program.{Program}
use Rattle.jinja.specs.Types.{same_type}
use Rattle.jinja.specs.Classes.{is_class, at_or_below}
use Rattle.jinja.specs.Lookups.{Owned, own_field, method_at, sees}
use Rattle.jinja.specs.Rows.{Cell, usable, unusable, Row, unreached, reached}
use Rattle.jinja.specs.Join.{is_reference}
use Rattle.jinja.specs.Rule.{literal_type, Operands, operands, operands_of, jump, Edge, edge, next}
use Rattle.jinja.specs.Handlers.{null_pointer, class_cast, out_of_memory, lowest}

-- the test of Le
abbrev pub class_le : Program → ℕ → Ty → Bool
class_le P c Void = false
class_le P c Boolean = false
class_le P c Integer = false
class_le P c NullType = false
class_le P c (Class d) = at_or_below P c d

abbrev pub null_le : Program → Ty → Bool
null_le P Void = false
null_le P Boolean = false
null_le P Integer = false
null_le P NullType = true
null_le P (Class d) = is_class P d

abbrev pub type_le : Program → Ty → Ty → Bool
type_le P Void u = same_type Void u
type_le P Boolean u = same_type Boolean u
type_le P Integer u = same_type Integer u
type_le P NullType u = null_le P u
type_le P (Class c) u = class_le P c u

abbrev pub types_le : Program → List Ty → List Ty → Bool
types_le P [] [] = true
types_le P [] (u ∷ us) = false
types_le P (t ∷ ts) [] = false
types_le P (t ∷ ts) (u ∷ us) = type_le P t u && types_le P ts us

abbrev pub cell_type : Cell → Option Ty
cell_type (usable t) = Some t
cell_type unusable = None

-- the test of CanPush
abbrev pub can_push : {A : Type 0} → Owned → List A → Bool
can_push M st = nat_lt (length st) M.method.height

-- the tests of MayThrow and Relevant
abbrev pub may_throw : Program → Instr → ℕ → Bool
may_throw P (Load n) c = false
may_throw P (Store n) c = false
may_throw P (Push v) c = false
may_throw P Pop c = false
may_throw P (New d) c = at_or_below P out_of_memory c
may_throw P (Getfield f d) c = at_or_below P null_pointer c
may_throw P (Putfield f d) c = at_or_below P null_pointer c
may_throw P (Checkcast d) c = at_or_below P class_cast c
may_throw P (Invoke m n) c = true
may_throw P Return c = false
may_throw P IAdd c = false
may_throw P CmpEq c = false
may_throw P (IfFalse z) c = false
may_throw P (Goto z) c = false
may_throw P Throw c = true

unfoldable pub is_relevant : Program → Instr → ℕ → Handler → Bool
is_relevant P i pc x = nat_le x.first pc && nat_lt pc x.end && may_throw P i x.class

module _ (P : Program) (M : Owned) where
  abbrev pub send_field : ℕ → ℕ → ℕ → List Cell → Top Ty → Option (List Edge)
  send_field f c pc lt (top t st) = own_field P c f >>= λ x. type_le P t (Class c) >> (can_push M st >> Some (next pc (x.ty ∷ st) lt))

  abbrev pub send_put : ℕ → ℕ → ℕ → List Cell → Two Ty → Option (List Edge)
  send_put f c pc lt (two t u st) = own_field P c f >>= λ x. type_le P t x.ty >> (type_le P u (Class c) >> Some (next pc st lt))

  abbrev pub send_call : ℕ → ℕ → List Cell → Operands Ty → Option (List Edge)
  send_call m pc lt (operands args Void st) = None
  send_call m pc lt (operands args Boolean st) = None
  send_call m pc lt (operands args Integer st) = None
  send_call m pc lt (operands args NullType st) = Some []
  send_call m pc lt (operands args (Class c) st) = sees P c m >>= λ k. method_at P k >>= λ N. types_le P args N.method.params >> (can_push M st >> Some (next pc (N.method.result ∷ st) lt))

  abbrev pub send_sum : ℕ → List Cell → Two Ty → Option (List Edge)
  send_sum pc lt (two t u st) = same_type Integer t >> (same_type Integer u >> (can_push M st >> Some (next pc (Integer ∷ st) lt)))

  abbrev pub send_equal : ℕ → List Cell → Two Ty → Option (List Edge)
  send_equal pc lt (two t u st) = (same_type t u || (is_reference t && is_reference u)) >> (can_push M st >> Some (next pc (Boolean ∷ st) lt))

  -- what goes to the successors
  abbrev pub transfer : Instr → ℕ → List Ty → List Cell → Option (List Edge)
  transfer (Load n) pc st lt = slice_get lt n >>= λ c. cell_type c >>= λ t. can_push M st >> Some (next pc (t ∷ st) lt)
  transfer (Store n) pc st lt = top_of st >>= λ p. nat_lt n (length lt) >> elim p [ top t rest ↦ Some (next pc rest (slice_set lt n (usable t))) ]
  transfer (Push v) pc st lt = can_push M st >> Some (next pc (literal_type v ∷ st) lt)
  transfer Pop pc st lt = top_of st >>= λ p. elim p [ top t rest ↦ Some (next pc rest lt) ]
  transfer (New c) pc st lt = is_class P c >> (can_push M st >> Some (next pc (Class c ∷ st) lt))
  transfer (Getfield f c) pc st lt = top_of st >>= send_field f c pc lt
  transfer (Putfield f c) pc st lt = two_of st >>= send_put f c pc lt
  transfer (Checkcast c) pc st lt = top_of st >>= λ p. elim p [ top t rest ↦ is_reference t >> (is_class P c >> (can_push M rest >> Some (next pc (Class c ∷ rest) lt))) ]
  transfer (Invoke m n) pc st lt = operands_of n st >>= send_call m pc lt
  transfer Return pc st lt = top_of st >>= λ p. elim p [ top t rest ↦ type_le P t M.method.result >> Some [] ]
  transfer IAdd pc st lt = two_of st >>= send_sum pc lt
  transfer CmpEq pc st lt = two_of st >>= send_equal pc lt
  transfer (IfFalse z) pc st lt = top_of st >>= λ p. elim p [ top t rest ↦ same_type Boolean t >> (jump pc z >>= λ q. Some (edge (suc pc) rest lt ∷ edge q rest lt ∷ [])) ]
  transfer (Goto z) pc st lt = jump pc z >>= λ q. Some (edge q st lt ∷ [])
  transfer Throw pc st lt = top_of st >>= λ p. elim p [ top t rest ↦ is_reference t >> Some [] ]

  -- one handler before the others, which send o
  abbrev pub send_handler : Handler → Instr → ℕ → List Ty → List Cell → Option (List Edge) → Option (List Edge)
  send_handler x i pc st lt o =
      cond (is_relevant P i pc x)
      (is_class P x.class >> (nat_le x.depth (length st) >> (nat_lt x.depth M.method.height >> (o >>= λ es. Some (edge x.target (Class x.class ∷ lowest x.depth st) lt ∷ es)))))
      o

  -- what goes to the targets of the relevant handlers
  abbrev pub send_handlers : List Handler → Instr → ℕ → List Ty → List Cell → Option (List Edge)
  send_handlers [] i pc st lt = Some []
  send_handlers (x ∷ xs) i pc st lt = send_handler x i pc st lt (send_handlers xs i pc st lt)

  -- all that an instruction sends from its row
  abbrev pub sends : Instr → ℕ → Row → Option (List Edge)
  sends i pc unreached = Some []
  sends i pc (reached st lt) = transfer i pc st lt >>= λ es. send_handlers M.method.handlers i pc st lt >>= λ hs. Some (es ++ hs)
