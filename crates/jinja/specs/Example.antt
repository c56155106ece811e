-- A small program with a call, a handler, a field and a cast, of which every theorem holds. Assumes nothing.
use Rattle.std.specs.Prelude.{◌≡◌, ℕ, zero, suc, List, [], ◌∷◌, pos, negsuc}
use Rattle.heap.specs.declared.value.Value.TheVariants as value
use Rattle.heap.specs.declared.charge.ChargeLine.{ChargeLine}
use Rattle.heap.specs.Meaning.{Meaning}
use Rattle.jinja.specs.declared.ty.Ty.TheVariants.{Integer, Class}
use Rattle.jinja.specs.declared.instr.Literal.TheVariants as literal
use Rattle.jinja.specs.declared.instr.Instr.TheVariants.{Load, Push, Pop, Getfield, Checkcast, Invoke, Return, IAdd}
use Rattle.jinja.specs.declared.answer.Answer.TheVariants as answer
use Rattle.jinja.specs.declared.answer.Phase.TheVariants.{Finished}
use Rattle.jinja.specs.declared.answer.Outcome.TheVariants.{Returned}
use Rattle.jinja.specs.declared.answer.Reply.TheVariants as reply
use Rattle.jinja.specs.Program.{MethodDecl, Program}
use Rattle.jinja.specs.WellFormed.{WellFormed}
use Rattle.jinja.specs.Rows.{usable, reached, Table}
use Rattle.jinja.specs.WellTyping.{LeastTypings}
use Rattle.jinja.specs.Step.{Frame, going, exec}
use Rattle.jinja.specs.State.{made}
use Rattle.jinja.specs.Calls.{Call, begins, runs, ends}
use Rattle.jinja.specs.History.{replies, events, objects_made}
use Rattle.jinja.specs.Promise.{Promise}

-- method 7 calls method 8 and catches what that throws
abbrev pub outer : MethodDecl
outer = record {
  name = 7;
  params = [];
  result = Integer;
  height = 2;
  extras = 0;
  code = Load 0 ∷ Invoke 8 0 ∷ Return ∷ Pop ∷ Push (literal.Integer (pos 1)) ∷ Return ∷ [];
  handlers = record { first = 0; end = 2; class = 0; target = 3; depth = 0 } ∷ [];
}

-- method 8 reads field 2 of what its own field 1 holds, which is Null at first
abbrev pub inner : MethodDecl
inner = record {
  name = 8;
  params = [];
  result = Integer;
  height = 1;
  extras = 0;
  code = Load 0 ∷ Checkcast 4 ∷ Getfield 1 4 ∷ Getfield 2 4 ∷ Return ∷ [];
  handlers = [];
}

abbrev pub example : Program
example = record { superclass = 0; fields = record { name = 1; ty = Class 4 } ∷ record { name = 2; ty = Integer } ∷ []; methods = outer ∷ inner ∷ [] } ∷ []

abbrev pub outer_rows : Table
outer_rows zero = reached [] (usable (Class 4) ∷ [])
outer_rows (suc zero) = reached (Class 4 ∷ []) (usable (Class 4) ∷ [])
outer_rows (suc (suc zero)) = reached (Integer ∷ []) (usable (Class 4) ∷ [])
outer_rows (suc (suc (suc zero))) = reached (Class 0 ∷ []) (usable (Class 4) ∷ [])
outer_rows (suc (suc (suc (suc zero)))) = reached [] (usable (Class 4) ∷ [])
outer_rows (suc (suc (suc (suc (suc pc))))) = reached (Integer ∷ []) (usable (Class 4) ∷ [])

abbrev pub inner_rows : Table
inner_rows zero = reached [] (usable (Class 4) ∷ [])
inner_rows (suc zero) = reached (Class 4 ∷ []) (usable (Class 4) ∷ [])
inner_rows (suc (suc zero)) = reached (Class 4 ∷ []) (usable (Class 4) ∷ [])
inner_rows (suc (suc (suc zero))) = reached (Class 4 ∷ []) (usable (Class 4) ∷ [])
inner_rows (suc (suc (suc (suc pc)))) = reached (Integer ∷ []) (usable (Class 4) ∷ [])

abbrev pub example_rows : ℕ → Table
example_rows zero = outer_rows
example_rows (suc k) = inner_rows

-- a heap for eight objects
abbrev pub example_line : ChargeLine
example_line = record { fixed = 1; per_field = 0; total = 8 }

abbrev pub example_heap : Meaning
example_heap = record { objects = []; lines = example_line ∷ [] }

-- a whole run: the exception of the callee is caught, nine steps in all
abbrev pub example_calls : List Call
example_calls = begins 4 7 [] ∷ runs 20 ∷ ends 5 ∷ []

-- method 7 calls itself on this object without end
abbrev pub endless : Program
endless = record {
  superclass = 0;
  fields = [];
  methods = record {
    name = 7;
    params = [];
    result = Integer;
    height = 1;
    extras = 0;
    code = Load 0 ∷ Invoke 7 0 ∷ Return ∷ [];
    handlers = [];
  } ∷ [];
} ∷ []

-- the greatest Integer and 1, at an IAdd
abbrev pub adding : Frame
adding = record { method = 0; pc = 0; stack = value.Int (pos 1) ∷ value.Int (pos 2147483647) ∷ []; registers = [] }

pub record ExampleStands : Type 0 where
  pub well_formed : WellFormed example
  pub typed : LeastTypings example example_rows
  pub promise : (h : Meaning) (number : ℕ) (calls : List Call) → Promise example example_rows h number calls
  pub answers : replies example example_calls (made example_heap 5) ≡ reply.Began 5 ∷ reply.Ran (record { count = 9; last = answer.Finished }) ∷ reply.Ended (record { phase = Finished; steps = 9; outcome = Returned (value.Int (pos 1)) }) ∷ []
  pub makes : objects_made example example_heap.lines (events example example_calls (made example_heap 5)) [] ≡ 1 ∷ 2 ∷ 3 ∷ 4 ∷ []
  -- with 32 frames the next Invoke finds no room
  pub fills : replies endless (begins 4 7 [] ∷ runs 100 ∷ []) (made example_heap 5) ≡ reply.Began 5 ∷ reply.Ran (record { count = 63; last = answer.FramesFull }) ∷ []
  pub wraps : exec example IAdd example_heap (record { owner = 4; method = outer }) adding [] ≡ going example_heap adding (value.Int (negsuc 2147483647) ∷ []) []
