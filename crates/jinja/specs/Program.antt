-- A program: the own classes of a rule set, in file order. Assumes nothing.
use Rattle.std.specs.Prelude.{ℕ, List}
use Rattle.jinja.specs.declared.ty.Ty.{Ty}
use Rattle.jinja.specs.declared.instr.Instr.{Instr}
use Rattle.jinja.specs.declared.program.Field.{Field}
use Rattle.jinja.specs.declared.program.Handler.{Handler}

-- a method as its class declares it; its registers are this object, the parameters and the extras
pub record MethodDecl : Type 0 where
  pub name : ℕ
  pub params : List Ty
  pub result : Ty
  -- the greatest height of the operand stack
  pub height : ℕ
  pub extras : ℕ
  pub code : List Instr
  pub handlers : List Handler

pub record ClassDecl : Type 0 where
  pub superclass : ℕ
  pub fields : List Field
  pub methods : List MethodDecl

abbrev pub Program : Type 0
Program = List ClassDecl
