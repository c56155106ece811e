-- Worked files: the bytes of each, and what it says. Assumes nothing.
use Rattle.std.specs.Prelude.{◌≡◌, ℕ, true, List, [], ◌∷◌, ◌++◌, take, drop, pos, Ok, Err, Result}
use Rattle.std.specs.List.{AllByRecursion}
use Rattle.number.specs.declared.fault.NumberFault.TheVariants.{Cut, Padded, Oversize}
use Rattle.jinja.specs.declared.ty.Ty.TheVariants.{Integer as Integers}
use Rattle.jinja.specs.declared.instr.Literal.TheVariants.{Integer}
use Rattle.jinja.specs.declared.instr.Instr.TheVariants.{Push, Return, IAdd}
use Rattle.jinja.specs.Program.{MethodDecl, Program}
use Rattle.format.specs.declared.fault.TableFault.{TableFault}
use Rattle.format.specs.declared.fault.TableFault.TheVariants.{Number, Outside, Unknown, Classless, Twice, Override, LeftOver}
use Rattle.format.specs.Encode.{encode}
use Rattle.format.specs.Rules.{keeps}
use Rattle.format.specs.Parse.{parse}

-- class 4 under Object, whose method 7 adds 2 and 3
abbrev pub sum_method : MethodDecl
sum_method = record { name = 7; params = []; result = Integers; height = 2; extras = 0; code = Push (Integer (pos 2)) ∷ Push (Integer (pos 3)) ∷ IAdd ∷ Return ∷ []; handlers = [] }

abbrev pub sum_program : Program
sum_program = record { superclass = 0; fields = []; methods = sum_method ∷ [] } ∷ []

abbrev pub sum_file : List ℕ
sum_file = 1 ∷ 0 ∷ 0 ∷ 1 ∷ 7 ∷ 0 ∷ 2 ∷ 2 ∷ 0 ∷ 4 ∷ 2 ∷ 3 ∷ 4 ∷ 2 ∷ 3 ∷ 6 ∷ 10 ∷ 9 ∷ 0 ∷ []

-- a file and what it says
pub record Example : Type 0 where
  pub file : List ℕ
  pub says : Result Program TableFault

-- one file for each fault, in the order of their numbers, between two that are read
abbrev pub examples : List Example
examples =
    record { file = sum_file; says = Ok sum_program }
    -- the last byte is gone
    ∷ record { file = take 18 sum_file; says = Err (Number (Cut 18)) }
    -- byte 9, the count of instructions, in two groups
    ∷ record { file = take 9 sum_file ++ (132 ∷ 0 ∷ drop 10 sum_file); says = Err (Number (Padded 9)) }
    -- a fifth group of more bits than are left, at which a number is no longer cut
    ∷ record { file = 128 ∷ 128 ∷ 128 ∷ 128 ∷ 128 ∷ []; says = Err (Number (Oversize 0)) }
    -- a class too many
    ∷ record { file = 29 ∷ []; says = Err (Outside 0) }
    -- instruction 15
    ∷ record { file = take 10 sum_file ++ 15 ∷ []; says = Err (Unknown 10) }
    -- class 4 under itself
    ∷ record { file = 1 ∷ 4 ∷ []; says = Err (Classless 1) }
    -- field 7 of type Integer, and field 7
    ∷ record { file = 1 ∷ 0 ∷ 2 ∷ 7 ∷ 2 ∷ 7 ∷ []; says = Err (Twice 5) }
    -- class 5 under class 4 with a method 7 that gives a Boolean
    ∷ record { file = (2 ∷ drop 1 sum_file) ++ (4 ∷ 0 ∷ 1 ∷ 7 ∷ 0 ∷ 1 ∷ []); says = Err (Override 24) }
    -- a byte behind the file
    ∷ record { file = sum_file ++ 0 ∷ []; says = Err (LeftOver 19) }
    -- no classes
    ∷ record { file = 0 ∷ []; says = Ok [] }
    ∷ []

-- the definitions answer each file, and the first is the encoding of a program that keeps the rules
pub record ExamplesStand : Type 0 where
  pub parsed : AllByRecursion (λ x. parse x.file ≡ x.says) examples
  pub encoded : encode sum_program ≡ sum_file
  pub kept : keeps sum_program ≡ true
