-- How a program stands in a file. Assumes nothing.
use Rattle.std.specs.Prelude.{ℕ, true, false, List, ◌++◌, length}
use Rattle.std.specs.List.{flat_map}
use Rattle.number.specs.Numbers.{bytes}
use Rattle.number.specs.Signed.{unsigned}
use Rattle.jinja.specs.declared.ty.Ty.{Ty}
use Rattle.jinja.specs.declared.instr.Literal.{Literal}
use Rattle.jinja.specs.declared.instr.Literal.TheVariants.{Unit, Null, Boolean, Integer}
use Rattle.jinja.specs.declared.instr.Instr.{Instr}
use Rattle.jinja.specs.declared.instr.Instr.TheVariants.{Load, Store, Push, Pop, New, Getfield, Putfield, Checkcast, Invoke, Return, IAdd, CmpEq, IfFalse, Goto, Throw}
use Rattle.jinja.specs.declared.program.Field.{Field}
use Rattle.jinja.specs.declared.program.Handler.{Handler}
use Rattle.jinja.specs.Program.{MethodDecl, ClassDecl, Program}
use Rattle.jinja.specs.Types.{type_number}

abbrev pub type_bytes : Ty → List ℕ
type_bytes t = bytes (type_number t)

abbrev pub literal_bytes : Literal → List ℕ
literal_bytes Unit = bytes 0
literal_bytes Null = bytes 1
literal_bytes (Boolean false) = bytes 2 ++ bytes 0
literal_bytes (Boolean true) = bytes 2 ++ bytes 1
literal_bytes (Integer z) = bytes 3 ++ bytes (unsigned z)

abbrev pub instr_bytes : Instr → List ℕ
instr_bytes (Load n) = bytes 0 ++ bytes n
instr_bytes (Store n) = bytes 1 ++ bytes n
instr_bytes (Push v) = bytes 2 ++ literal_bytes v
instr_bytes Pop = bytes 3
instr_bytes (New c) = bytes 4 ++ bytes c
instr_bytes (Getfield f c) = bytes 5 ++ (bytes f ++ bytes c)
instr_bytes (Putfield f c) = bytes 6 ++ (bytes f ++ bytes c)
instr_bytes (Checkcast c) = bytes 7 ++ bytes c
instr_bytes (Invoke m n) = bytes 8 ++ (bytes m ++ bytes n)
instr_bytes Return = bytes 9
instr_bytes IAdd = bytes 10
instr_bytes CmpEq = bytes 11
instr_bytes (IfFalse z) = bytes 12 ++ bytes (unsigned z)
instr_bytes (Goto z) = bytes 13 ++ bytes (unsigned z)
instr_bytes Throw = bytes 14

-- a count, and then each
abbrev pub counted_bytes : {A : Type 0} → (A → List ℕ) → List A → List ℕ
counted_bytes item xs = bytes (length xs) ++ flat_map item xs

abbrev pub field_bytes : Field → List ℕ
field_bytes f = bytes f.name ++ type_bytes f.ty

abbrev pub handler_bytes : Handler → List ℕ
handler_bytes h = bytes h.first ++ (bytes h.end ++ (bytes h.class ++ (bytes h.target ++ bytes h.depth)))

abbrev pub method_bytes : MethodDecl → List ℕ
method_bytes m =
    bytes m.name ++ (counted_bytes type_bytes m.params ++ (type_bytes m.result ++
    (bytes m.height ++ (bytes m.extras ++ (counted_bytes instr_bytes m.code ++ counted_bytes handler_bytes m.handlers)))))

abbrev pub class_bytes : ClassDecl → List ℕ
class_bytes c = bytes c.superclass ++ (counted_bytes field_bytes c.fields ++ counted_bytes method_bytes c.methods)

-- a whole file
unfoldable pub encode : Program → List ℕ
encode P = counted_bytes class_bytes P
