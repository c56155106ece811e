-- What an example says of a file, and when it stands: what loading answers, and what runs come to. Assumes nothing.
use Rattle.std.specs.Prelude.{◌≡◌, ℕ, suc, ◌<◌, true, List, [], ◌∷◌, ◌++◌, map, replicate, Some, Ok, Err, Result}
use Rattle.std.specs.List.{slice_get, AllByRecursion}
use Rattle.number.specs.Laws.{AllBytes}
use Rattle.heap.specs.declared.value.Value.{Value}
use Rattle.slot_heap.specs.Slots.{slot_line}
use Rattle.jinja.specs.declared.answer.Answer.{Answer}
use Rattle.jinja.specs.declared.answer.Phase.{Phase}
use Rattle.jinja.specs.declared.answer.Outcome.{Outcome}
use Rattle.jinja.specs.declared.answer.Reply.{Reply}
use Rattle.jinja.specs.declared.answer.Reply.TheVariants as reply
use Rattle.jinja.specs.Answers.{answer_number}
use Rattle.jinja.specs.Program.{Program}
use Rattle.jinja.specs.Classes.{maybe}
use Rattle.jinja.specs.Lookups.{Owned, method_at}
use Rattle.jinja.specs.Rows.{Row, unreached, Table}
use Rattle.jinja.specs.WellTyping.{WellTyping, Untypable, LeastTypings}
use Rattle.jinja.specs.State.{State, made}
use Rattle.jinja.specs.Calls.{Call, begins, runs, ends}
use Rattle.jinja.specs.History.{replies, step_answers}
use Rattle.format.specs.declared.fault.TableFault.{TableFault}
use Rattle.format.specs.Faults.{table_fault_number, table_fault_place}
use Rattle.format.specs.Rules.{keeps}
use Rattle.format.specs.Parse.{parse, filled}

-- what loading answers: a number and a place, or the rows of each method's least well-typing
pub data Verdict : Type 0 where
  refused : ℕ → ℕ → Verdict
  accepted : List (List Row) → Verdict

-- begin with a class, a name and arguments: so many steps answer 0, the next one answers another number, and end says the rest
pub record Run : Type 0 where
  pub class : ℕ
  pub name : ℕ
  pub arguments : List Value
  pub steps : ℕ
  pub next : ℕ
  pub phase : Phase
  pub outcome : Outcome

-- a file, the program that it leaves in a set (none where the reader refuses it), what loading it answers, and runs of it
pub record Example : Type 0 where
  pub file : List ℕ
  pub program : Program
  pub verdict : Verdict
  pub runs : List Run

-- no instruction behind the rows is reached
abbrev pub listed : List Row → Table
listed rows pc = maybe (slice_get rows pc) unreached (λ r. r)

abbrev pub tables : List (List Row) → ℕ → Table
tables ts k = maybe (slice_get ts k) (λ pc. unreached) listed

-- the method k is the first that has no well-typing
pub record FirstUntypable (P : Program) (k : ℕ) : Type 0 where
  pub before : (j : ℕ) (M : Owned) → j < k → method_at P j ≡ Some M → (rows : Table) × WellTyping P M rows
  pub method : Owned
  pub stands : method_at P k ≡ Some method
  pub untypable : Untypable P method

-- the number of a refused set that has such a method; the place is the method
abbrev pub untypable_number : ℕ
untypable_number = 11

-- what loading answers where the file says this
abbrev pub Answers : Result Program TableFault → Verdict → Type 0
Answers (Err f) (refused number place) = (table_fault_number f ≡ number) × (table_fault_place f ≡ place)
Answers (Err f) (accepted ts) = ⊥
Answers (Ok P) (refused number place) = (number ≡ untypable_number) × FirstUntypable P place
Answers (Ok P) (accepted ts) = LeastTypings P (tables ts)

-- a machine of number 0 over a slot heap
abbrev pub machine : State
machine = made (record { objects = []; lines = slot_line ∷ [] }) 0

-- a whole run, with one step more than answer 0
abbrev pub calls : Run → List Call
calls r = begins r.class r.name r.arguments ∷ runs (suc r.steps) ∷ ends 0 ∷ []

-- the numbers that single steps answer, and the replies where the last answer of the run is this
abbrev pub answers_of : Run → List ℕ
answers_of r = replicate r.steps 0 ++ r.next ∷ []

abbrev pub replies_of : Run → Answer → List Reply
replies_of r last = reply.Began 0 ∷ reply.Ran (record { count = r.steps; last = last }) ∷ reply.Ended (record { phase = r.phase; steps = r.steps; outcome = r.outcome }) ∷ []

pub record Comes (P : Program) (r : Run) : Type 0 where
  pub answers : map answer_number (step_answers P (calls r) machine) ≡ answers_of r
  pub last : Answer
  pub number : answer_number last ≡ r.next
  pub replied : replies P (calls r) machine ≡ replies_of r last

-- the file is read as the program, which keeps the rules, and loading and running come to what is said of them
pub record Stands (x : Example) : Type 0 where
  pub bytes : AllBytes x.file
  pub holds : filled (parse x.file) ≡ x.program
  pub kept : keeps x.program ≡ true
  pub loads : Answers (parse x.file) x.verdict
  pub runs : AllByRecursion (Comes x.program) x.runs
