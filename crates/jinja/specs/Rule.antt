-- The rule of each instruction: what it needs from its row, and what its successors get. Assumes nothing.
use Rattle.std.specs.Prelude.{◌≡◌, ℕ, zero, suc, ◌<◌, List, [], ◌∷◌, length, ℤ, pos, ◌+ℤ◌, Some, None, Option, slice_set}
use Rattle.std.specs.List.{slice_get}
use Rattle.jinja.specs.declared.ty.Ty.{Ty}
use Rattle.jinja.specs.declared.ty.Ty.TheVariants.{Void, Boolean, Integer, NullType, Class}
use Rattle.jinja.specs.declared.instr.Literal.{Literal}
use Rattle.jinja.specs.declared.instr.Literal.TheVariants as literal
use Rattle.jinja.specs.declared.instr.Instr.{Instr}
use Rattle.jinja.specs.declared.instr.Instr.TheVariants.{Load, Store, Push, Pop, New, Getfield, Putfield, Checkcast, Invoke, Return, IAdd, CmpEq, IfFalse, Goto, Throw}
use Rattle.jinja.specs.declared.program.FieldPlace.{FieldPlace}
use Rattle.jinja.specs.Program.{Program}
use Rattle.jinja.specs.Classes.{IsClass}
use Rattle.jinja.specs.Lookups.{Owned, own_field, method_at, sees}
use Rattle.jinja.specs.Rows.{Cell, usable}
use Rattle.jinja.specs.Order.{Le, LeAll, Reference}

abbrev pub literal_type : Literal → Ty
literal_type literal.Unit = Void
literal_type literal.Null = NullType
literal_type (literal.Boolean b) = Boolean
literal_type (literal.Integer z) = Integer

-- what Invoke takes off the stack: the arguments in the order in which they were pushed, the receiver, and what stays
pub data Operands (A : Type 0) : Type 0 where
  operands : List A → A → List A → Operands A

abbrev pub taken : {A : Type 0} → ℕ → List A → List A → Option (Operands A)
taken zero [] args = None
taken zero (r ∷ st) args = Some (operands args r st)
taken (suc n) [] args = None
taken (suc n) (a ∷ st) args = taken n st (a ∷ args)

abbrev pub operands_of : {A : Type 0} → ℕ → List A → Option (Operands A)
operands_of n st = taken n st []

-- z further on, if that is no place before the first
abbrev pub jump : ℕ → ℤ → Option ℕ
jump pc z = elim (pos pc +ℤ z) [ lib.IntN.pos n ↦ Some n | lib.IntN.negsuc n ↦ None ]

-- a push onto these cells starts below the method's greatest height
abbrev pub CanPush : {A : Type 0} → Owned → List A → Type 0
CanPush M st = length st < M.method.height

-- a successor, and the stack and registers that it gets
pub data Edge : Type 0 where
  edge : ℕ → List Ty → List Cell → Edge

abbrev pub next : ℕ → List Ty → List Cell → List Edge
next pc st lt = edge (suc pc) st lt ∷ []

-- an instruction of M at the place pc, the stack and registers that it meets, and its successors
pub data Rule (P : Program) (M : Owned) : Instr → ℕ → List Ty → List Cell → List Edge → Type 0 where
  load : {n pc : ℕ} {t : Ty} {st : List Ty} {lt : List Cell} → slice_get lt n ≡ Some (usable t) → CanPush M st → Rule P M (Load n) pc st lt (next pc (t ∷ st) lt)
  store : {n pc : ℕ} {t : Ty} {st : List Ty} {lt : List Cell} → n < length lt → Rule P M (Store n) pc (t ∷ st) lt (next pc st (slice_set lt n (usable t)))
  push : {v : Literal} {pc : ℕ} {st : List Ty} {lt : List Cell} → CanPush M st → Rule P M (Push v) pc st lt (next pc (literal_type v ∷ st) lt)
  pop : {pc : ℕ} {t : Ty} {st : List Ty} {lt : List Cell} → Rule P M Pop pc (t ∷ st) lt (next pc st lt)
  new : {c pc : ℕ} {st : List Ty} {lt : List Cell} → IsClass P c → CanPush M st → Rule P M (New c) pc st lt (next pc (Class c ∷ st) lt)
  getfield : {f c pc : ℕ} {x : FieldPlace} {t : Ty} {st : List Ty} {lt : List Cell} → own_field P c f ≡ Some x → Le P t (Class c) → CanPush M st → Rule P M (Getfield f c) pc (t ∷ st) lt (next pc (x.ty ∷ st) lt)
  putfield : {f c pc : ℕ} {x : FieldPlace} {t u : Ty} {st : List Ty} {lt : List Cell} → own_field P c f ≡ Some x → Le P t x.ty → Le P u (Class c) → Rule P M (Putfield f c) pc (t ∷ u ∷ st) lt (next pc st lt)
  checkcast : {c pc : ℕ} {t : Ty} {st : List Ty} {lt : List Cell} → Reference t → IsClass P c → CanPush M st → Rule P M (Checkcast c) pc (t ∷ st) lt (next pc (Class c ∷ st) lt)
  invoke : {m n pc c k : ℕ} {N : Owned} {st rest args : List Ty} {lt : List Cell} → operands_of n st ≡ Some (operands args (Class c) rest) → sees P c m ≡ Some k → method_at P k ≡ Some N → LeAll P args N.method.params → CanPush M rest → Rule P M (Invoke m n) pc st lt (next pc (N.method.result ∷ rest) lt)
  invoke_null : {m n pc : ℕ} {st rest args : List Ty} {lt : List Cell} → operands_of n st ≡ Some (operands args NullType rest) → Rule P M (Invoke m n) pc st lt []
  return : {pc : ℕ} {t : Ty} {st : List Ty} {lt : List Cell} → Le P t M.method.result → Rule P M Return pc (t ∷ st) lt []
  iadd : {pc : ℕ} {st : List Ty} {lt : List Cell} → CanPush M st → Rule P M IAdd pc (Integer ∷ Integer ∷ st) lt (next pc (Integer ∷ st) lt)
  cmpeq : {pc : ℕ} {t : Ty} {st : List Ty} {lt : List Cell} → CanPush M st → Rule P M CmpEq pc (t ∷ t ∷ st) lt (next pc (Boolean ∷ st) lt)
  cmpeq_references : {pc : ℕ} {t u : Ty} {st : List Ty} {lt : List Cell} → Reference t → Reference u → CanPush M st → Rule P M CmpEq pc (t ∷ u ∷ st) lt (next pc (Boolean ∷ st) lt)
  iffalse : {z : ℤ} {pc q : ℕ} {st : List Ty} {lt : List Cell} → jump pc z ≡ Some q → Rule P M (IfFalse z) pc (Boolean ∷ st) lt (edge (suc pc) st lt ∷ edge q st lt ∷ [])
  goto : {z : ℤ} {pc q : ℕ} {st : List Ty} {lt : List Cell} → jump pc z ≡ Some q → Rule P M (Goto z) pc st lt (edge q st lt ∷ [])
  throw : {pc : ℕ} {t : Ty} {st : List Ty} {lt : List Cell} → Reference t → Rule P M Throw pc (t ∷ st) lt []
