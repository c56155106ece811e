-- What each call of a heap answers, and the meaning that it leaves. A call that is not named `after` leaves it as it was.
use Rattle.std.specs.Prelude.{ℕ, Bool, cond, ◌&&◌, List, [], ◌∷◌, ◌++◌, length, Ok, Err, Option, Result, nat_lt, slice_index_or, slice_set}
use Rattle.std.specs.List.{slice_get}
use Rattle.heap.specs.declared.value.Value.{Value}
use Rattle.heap.specs.declared.value.Value.TheVariants.{Unit as unit}
use Rattle.heap.specs.declared.fault.HeapFault.{HeapFault}
use Rattle.heap.specs.declared.fault.HeapFault.TheVariants.{Full, NoObject}
use Rattle.heap.specs.declared.charge.ChargeLine.{ChargeLine}
use Rattle.heap.specs.Meaning.{Object, Meaning, admits}

-- the same lines over other objects
abbrev pub with_objects : Meaning → List Object → Meaning
with_objects m os = record { objects = os; lines = m.lines }

abbrev pub has_object : Meaning → ℕ → Bool
has_object m a = nat_lt a (length m.objects)

-- what stands at an address, asked only where an object does
abbrev pub no_object : Object
no_object = record { class = 0; row = [] }

abbrev pub object_at : Meaning → ℕ → Object
object_at m a = slice_index_or m.objects a no_object

abbrev pub has_field : Meaning → ℕ → ℕ → Bool
has_field m a i = has_object m a && nat_lt i (length (object_at m a).row)

-- add: the new object's address is the count of those before it
abbrev pub add_answer : Meaning → ℕ → Result ℕ HeapFault
add_answer m n = cond (admits m n) (Ok (length m.objects)) (Err Full)

abbrev pub with_object : Meaning → ℕ → List Value → Meaning
with_object m c vs = with_objects m (m.objects ++ (record { class = c; row = vs }) ∷ [])

abbrev pub after_add : Meaning → ℕ → List Value → Meaning
after_add m c vs = cond (admits m (length vs)) (with_object m c vs) m

-- empty
abbrev pub vacant : List ChargeLine → Meaning
vacant ls = record { objects = []; lines = ls }

abbrev pub after_empty : Meaning → Meaning
after_empty m = vacant m.lines

-- count
abbrev pub count_answer : Meaning → ℕ
count_answer m = length m.objects

-- class, row length and field reading
abbrev pub class_answer : Meaning → ℕ → Result ℕ HeapFault
class_answer m a = cond (has_object m a) (Ok (object_at m a).class) (Err NoObject)

abbrev pub row_len_answer : Meaning → ℕ → Result ℕ HeapFault
row_len_answer m a = cond (has_object m a) (Ok (length (object_at m a).row)) (Err NoObject)

abbrev pub read_answer : Meaning → ℕ → ℕ → Result Value HeapFault
read_answer m a i = cond (has_field m a i) (Ok (slice_index_or (object_at m a).row i unit)) (Err NoObject)

-- write
abbrev pub write_answer : Meaning → ℕ → ℕ → Result (Unit {0}) HeapFault
write_answer m a i = cond (has_field m a i) (Ok tt) (Err NoObject)

abbrev pub with_field : Object → ℕ → Value → Object
with_field o i v = record { class = o.class; row = slice_set o.row i v }

abbrev pub with_value : Meaning → ℕ → ℕ → Value → Meaning
with_value m a i v = with_objects m (slice_set m.objects a (with_field (object_at m a) i v))

abbrev pub after_write : Meaning → ℕ → ℕ → Value → Meaning
after_write m a i v = cond (has_field m a i) (with_value m a i v) m

-- line: from the top of a pile downward, and nothing past the last
abbrev pub line_answer : Meaning → ℕ → Option ChargeLine
line_answer m i = slice_get m.lines i

-- an allowance: the same objects under one line more, in front of the others
abbrev pub under : ChargeLine → Meaning → Meaning
under l m = record { objects = m.objects; lines = l ∷ m.lines }
