-- The programs of the worked examples, and the least well-typings of their methods. Each is one class under Object. Assumes nothing.
use Rattle.std.specs.Prelude.{ℕ, List, [], ◌∷◌, pos}
use Rattle.jinja.specs.declared.ty.Ty.{Ty}
use Rattle.jinja.specs.declared.ty.Ty.TheVariants.{Void, Boolean, Integer, NullType, Class}
use Rattle.jinja.specs.declared.instr.Literal.TheVariants as literal
use Rattle.jinja.specs.declared.instr.Instr.{Instr}
use Rattle.jinja.specs.declared.instr.Instr.TheVariants.{Load, Store, Push, Invoke, Return, IAdd, IfFalse, Goto}
use Rattle.jinja.specs.Program.{MethodDecl, Program}
use Rattle.jinja.specs.Rows.{Cell, usable, unusable, Row, reached}

-- class 4 with this method
abbrev pub one_method : MethodDecl → Program
one_method m = record { superclass = 0; fields = []; methods = m ∷ [] } ∷ []

-- a method 7 that takes nothing and gives an Integer, of this greatest height
abbrev pub integer_method : ℕ → List Instr → Program
integer_method height code = one_method (record { name = 7; params = []; result = Integer; height = height; extras = 0; code = code; handlers = [] })

-- a method 7 that takes a Boolean and gives Unit, with one extra register
abbrev pub boolean_method : List Instr → Program
boolean_method code = one_method (record { name = 7; params = Boolean ∷ []; result = Void; height = 1; extras = 1; code = code; handlers = [] })

-- 2 and 3, with room for two operands or for one
abbrev pub adds : ℕ → Program
adds height = integer_method height (Push (literal.Integer (pos 2)) ∷ Push (literal.Integer (pos 3)) ∷ IAdd ∷ Return ∷ [])

-- the greatest Integer, and 1
abbrev pub wraps : Program
wraps = integer_method 2 (Push (literal.Integer (pos 2147483647)) ∷ Push (literal.Integer (pos 1)) ∷ IAdd ∷ Return ∷ [])

-- it calls itself on this object
abbrev pub calls_itself : Program
calls_itself = integer_method 1 (Load 0 ∷ Invoke 7 0 ∷ Return ∷ [])

-- an Integer or Null on the stack, where both ways meet
abbrev pub mixes_cell : Program
mixes_cell = boolean_method (
    Load 1 ∷ IfFalse (pos 3) ∷ Push (literal.Integer (pos 5)) ∷ Goto (pos 2) ∷ Push literal.Null
    ∷ Store 2 ∷ Push literal.Unit ∷ Return ∷ [])

-- an Integer or Null in register 2, where both ways meet
abbrev pub mixes_register : Program
mixes_register = boolean_method (
    Load 1 ∷ IfFalse (pos 4) ∷ Push (literal.Integer (pos 5)) ∷ Store 2 ∷ Goto (pos 3) ∷ Push literal.Null ∷ Store 2
    ∷ Push literal.Unit ∷ Return ∷ [])

abbrev this : Cell
this = usable (Class 4)

-- this stack beside this object
abbrev alone : List Ty → Row
alone st = reached st (this ∷ [])

-- this stack beside this object, the Boolean and register 2
abbrev beside : List Ty → Cell → Row
beside st c = reached st (this ∷ usable Boolean ∷ c ∷ [])

abbrev pub adding_rows : List Row
adding_rows = alone [] ∷ alone (Integer ∷ []) ∷ alone (Integer ∷ Integer ∷ []) ∷ alone (Integer ∷ []) ∷ []

abbrev pub calling_rows : List Row
calling_rows = alone [] ∷ alone (Class 4 ∷ []) ∷ alone (Integer ∷ []) ∷ []

-- register 2 is an Integer at instruction 4, and unusable at 7
abbrev pub mixing_rows : List Row
mixing_rows =
    beside [] unusable
    ∷ beside (Boolean ∷ []) unusable
    ∷ beside [] unusable
    ∷ beside (Integer ∷ []) unusable
    ∷ beside [] (usable Integer)
    ∷ beside [] unusable
    ∷ beside (NullType ∷ []) unusable
    ∷ beside [] unusable
    ∷ beside (Void ∷ []) unusable
    ∷ []
