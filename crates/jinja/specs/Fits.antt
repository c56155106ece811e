-- What a state keeps: values fit types, objects their classes, frames their rows. Assumes nothing.
use Rattle.std.specs.Prelude.{◌≡◌, ℕ, ◌<◌, Bool, List, [], ◌∷◌, map, length, ℤ, Some}
use Rattle.std.specs.List.{slice_get}
use Rattle.heap.specs.declared.value.Value.{Value}
use Rattle.heap.specs.declared.value.Value.TheVariants as value
use Rattle.heap.specs.Meaning.{Object, Meaning}
use Rattle.jinja.specs.declared.ty.Ty.{Ty}
use Rattle.jinja.specs.declared.ty.Ty.TheVariants.{Void, Boolean, Integer, NullType, Class}
use Rattle.jinja.specs.declared.instr.Instr.TheVariants.{Invoke}
use Rattle.jinja.specs.declared.program.Field.{Field}
use Rattle.jinja.specs.declared.answer.Phase.{Phase}
use Rattle.jinja.specs.declared.answer.Phase.TheVariants.{Idle, Running, Finished, Uncaught}
use Rattle.jinja.specs.declared.answer.Outcome.{Outcome}
use Rattle.jinja.specs.declared.answer.Outcome.TheVariants.{Nothing, Returned, Threw}
use Rattle.jinja.specs.Program.{Program}
use Rattle.jinja.specs.Classes.{IsClass, AtOrBelow}
use Rattle.jinja.specs.Lookups.{Owned, fields_of, method_at, sees}
use Rattle.jinja.specs.Rows.{Cell, usable, unusable, reached, Table}
use Rattle.jinja.specs.Order.{Pairwise}
use Rattle.jinja.specs.Rule.{operands, operands_of}
use Rattle.jinja.specs.Handlers.{null_pointer, class_cast, out_of_memory}
use Rattle.jinja.specs.Values.{class_of}
use Rattle.jinja.specs.Step.{Frame, null_pointer_at, class_cast_at, out_of_memory_at}
use Rattle.jinja.specs.State.{State}

-- a value fits the types at or above its own; an address has its object's class
pub data Fits (P : Program) (h : Meaning) : Value → Ty → Type 0 where
  unit_fits : Fits P h value.Unit Void
  null_fits : Fits P h value.Null NullType
  null_fits_class : {c : ℕ} → IsClass P c → Fits P h value.Null (Class c)
  boolean_fits : {b : Bool} → Fits P h (value.Bool b) Boolean
  integer_fits : {z : ℤ} → Fits P h (value.Int z) Integer
  address_fits : {a c d : ℕ} → class_of h a ≡ Some c → AtOrBelow P c d → Fits P h (value.Addr a) (Class d)

abbrev pub FitAll : Program → Meaning → List Value → List Ty → Type 0
FitAll P h = Pairwise (Fits P h)

-- an unusable register may hold any value
pub data FitsCell (P : Program) (h : Meaning) : Value → Cell → Type 0 where
  fits_usable : {v : Value} {t : Ty} → Fits P h v t → FitsCell P h v (usable t)
  fits_unusable : {v : Value} → FitsCell P h v unusable

abbrev pub FitCells : Program → Meaning → List Value → List Cell → Type 0
FitCells P h = Pairwise (FitsCell P h)

-- the types of an object's fields
abbrev pub field_types : Program → ℕ → List Ty
field_types P c = map (λ (f : Field). f.ty) (fields_of P c)

-- an object's class exists, and its row has a fitting value for each field
pub record ObjectFits (P : Program) (h : Meaning) (o : Object) : Type 0 where
  pub exists : IsClass P o.class
  pub row_fits : FitAll P h o.row (field_types P o.class)

pub record ObjectsFit (P : Program) (h : Meaning) : Type 0 where
  pub each : (a : ℕ) (o : Object) → slice_get h.objects a ≡ Some o → ObjectFits P h o

-- the objects that stand for what the machine itself throws
pub record Exceptions (h : Meaning) : Type 0 where
  pub at_0 : class_of h null_pointer_at ≡ Some null_pointer
  pub at_1 : class_of h class_cast_at ≡ Some class_cast
  pub at_2 : class_of h out_of_memory_at ≡ Some out_of_memory

module _ (P : Program) (Φ : ℕ → Table) where
  -- a frame stands at a reached instruction of its method, and its height, cells and registers fit the row
  pub record FrameFits (h : Meaning) (f : Frame) (M : Owned) (st : List Ty) (lt : List Cell) : Type 0 where
    pub method_is : method_at P f.method ≡ Some M
    pub inside : f.pc < length M.method.code
    pub row_is : Φ f.method f.pc ≡ reached st lt
    pub stack_fits : FitAll P h f.stack st
    pub registers_fit : FitCells P h f.registers lt

  -- a frame of M waits at an Invoke on an object whose class sees the method k, with as many arguments
  pub record Waits (h : Meaning) (f : Frame) (M : Owned) (k : ℕ) : Type 0 where
    pub name : ℕ
    pub count : ℕ
    pub address : ℕ
    pub class : ℕ
    pub callee : Owned
    pub args : List Value
    pub left : List Value
    pub at_invoke : slice_get M.method.code f.pc ≡ Some (Invoke name count)
    pub holds : operands_of count f.stack ≡ Some (operands args (value.Addr address) left)
    pub class_is : class_of h address ≡ Some class
    pub seen : sees P class name ≡ Some k
    pub callee_is : method_at P k ≡ Some callee
    pub many : length callee.method.params ≡ count

  -- the frames below one of the method k; the lowest is of the method b that was begun
  pub data Below (h : Meaning) (b : ℕ) : ℕ → List Frame → Type 0 where
    bottom : Below h b b []
    caller : {k : ℕ} {f : Frame} {rest : List Frame} {M : Owned} {st : List Ty} {lt : List Cell} → FrameFits h f M st lt → Waits h f M k → Below h b f.method rest → Below h b k (f ∷ rest)

  pub data Stand (h : Meaning) (b : ℕ) : List Frame → Type 0 where
    stand : {f : Frame} {rest : List Frame} {M : Owned} {st : List Ty} {lt : List Cell} → FrameFits h f M st lt → Below h b f.method rest → Stand h b (f ∷ rest)

  -- while frames stand the exception objects do; a value that was returned fits the result of the method that was begun,
  -- and an address that was thrown is an object's
  pub data PhaseFits (h : Meaning) (b : ℕ) : Phase → List Frame → Outcome → Type 0 where
    idle_fits : PhaseFits h b Idle [] Nothing
    running_fits : {fs : List Frame} → Exceptions h → Stand h b fs → PhaseFits h b Running fs Nothing
    finished_fits : {M : Owned} {v : Value} → method_at P b ≡ Some M → Fits P h v M.method.result → PhaseFits h b Finished [] (Returned v)
    uncaught_fits : {a c : ℕ} → class_of h a ≡ Some c → PhaseFits h b Uncaught [] (Threw a)

  -- a state fits, where the method b was begun last
  pub record StateFits (b : ℕ) (s : State) : Type 0 where
    pub objects_fit : ObjectsFit P s.heap
    pub phase_fits : PhaseFits s.heap b s.phase s.frames s.outcome
