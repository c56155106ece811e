-- What a file says: its program, or the first fault in file order, at one place the one of the smaller number. Assumes nothing.
use Rattle.std.specs.Prelude.{ℕ, ◌+◌, Bool, true, false, cond, List, [], length, ℤ, Ok, Err, Result, ◌==◌, nat_le, nat_lt}
use Rattle.number.specs.Signed.{signed}
use Rattle.jinja.specs.declared.ty.Ty.{Ty}
use Rattle.jinja.specs.declared.instr.Literal.{Literal}
use Rattle.jinja.specs.declared.instr.Literal.TheVariants.{Unit, Null, Boolean, Integer}
use Rattle.jinja.specs.declared.instr.Instr.{Instr}
use Rattle.jinja.specs.declared.instr.Instr.TheVariants.{Load, Store, Push, Pop, New, Getfield, Putfield, Checkcast, Invoke, Return, IAdd, CmpEq, IfFalse, Goto, Throw}
use Rattle.jinja.specs.declared.program.Field.{Field}
use Rattle.jinja.specs.declared.program.Handler.{Handler}
use Rattle.jinja.specs.Program.{MethodDecl, ClassDecl, Program}
use Rattle.jinja.specs.Types.{type_of_number}
use Rattle.jinja.specs.Classes.{is_class}
use Rattle.format.specs.declared.fault.TableFault.{TableFault}
use Rattle.format.specs.declared.fault.TableFault.TheVariants.{Outside, Unknown, Classless, Twice, Override, LeftOver}
use Rattle.format.specs.Limits.{max_classes, max_params, max_height, max_name, max_operand, max_handler_number, max_offset}
use Rattle.format.specs.Rules.{unused, field_name, method_name, count_code, count_handlers, program_code, program_handlers, registers_keep, code_keeps, handlers_keep, fields_keep, methods_keep, override_keeps}
use Rattle.format.specs.Reading.{Read, then, checked, counted, any_at, at_most}

module _ (file : List ℕ) where
  -- a type, where there are n classes in all
  abbrev pub type_at : ℕ → ℕ → Read Ty
  type_at n p = then (any_at file p) (λ t q. checked (nat_lt t (4 + n)) (Classless p) (Ok (type_of_number t, q)))

  -- a name that no item of `mine` has
  abbrev pub name_at : {A : Type 0} → (A → ℕ) → List A → ℕ → Read ℕ
  name_at name mine p = then (at_most file max_name p) (λ n q. checked (unused name n mine) (Twice p) (Ok (n, q)))

  abbrev pub boolean_at : ℕ → Read Bool
  boolean_at p = then (any_at file p) (λ b q. cond (b == 0) (Ok (false, q)) (cond (b == 1) (Ok (true, q)) (Err (Unknown p))))

  -- the rest of a literal whose kind, k, stands at p
  abbrev pub literal_of : ℕ → ℕ → ℕ → Read Literal
  literal_of p k q =
      cond (k == 0) (Ok (Unit, q))
      (cond (k == 1) (Ok (Null, q))
      (cond (k == 2) (then (boolean_at q) (λ b r. Ok (Boolean b, r)))
      (cond (k == 3) (then (any_at file q) (λ n r. Ok (Integer (signed n), r)))
      (Err (Unknown p)))))

  abbrev pub literal_at : ℕ → Read Literal
  literal_at p = then (any_at file p) (literal_of p)

  -- instructions of one operand, of a name and another operand, and of an offset
  abbrev pub one : (ℕ → Instr) → ℕ → Read Instr
  one make q = then (at_most file max_operand q) (λ n r. Ok (make n, r))

  abbrev pub named : (ℕ → ℕ → Instr) → ℕ → Read Instr
  named make q = then (at_most file max_name q) (λ a r. then (at_most file max_operand r) (λ b t. Ok (make a b, t)))

  abbrev pub jump : (ℤ → Instr) → ℕ → Read Instr
  jump make q = then (at_most file max_offset q) (λ n r. Ok (make (signed n), r))

  -- the rest of an instruction whose number, k, stands at p
  abbrev pub operands_of : ℕ → ℕ → ℕ → Read Instr
  operands_of p k q =
      cond (k == 0) (one Load q)
      (cond (k == 1) (one Store q)
      (cond (k == 2) (then (literal_at q) (λ v r. Ok (Push v, r)))
      (cond (k == 3) (Ok (Pop, q))
      (cond (k == 4) (one New q)
      (cond (k == 5) (named Getfield q)
      (cond (k == 6) (named Putfield q)
      (cond (k == 7) (one Checkcast q)
      (cond (k == 8) (named Invoke q)
      (cond (k == 9) (Ok (Return, q))
      (cond (k == 10) (Ok (IAdd, q))
      (cond (k == 11) (Ok (CmpEq, q))
      (cond (k == 12) (jump IfFalse q)
      (cond (k == 13) (jump Goto q)
      (cond (k == 14) (Ok (Throw, q))
      (Err (Unknown p))))))))))))))))

  abbrev pub instr_at : ℕ → Read Instr
  instr_at p = then (any_at file p) (operands_of p)

  unfoldable pub handler_at : ℕ → Read Handler
  handler_at p =
      then (at_most file max_handler_number p) (λ first q.
      then (at_most file max_handler_number q) (λ end r.
      then (at_most file max_operand r) (λ class t.
      then (at_most file max_handler_number t) (λ target u.
      then (at_most file max_handler_number u) (λ depth v.
      Ok (record { first = first; end = end; class = class; target = target; depth = depth }, v))))))

  -- a field behind the fields `mine` of its class
  abbrev pub field_at : ℕ → List Field → ℕ → Read Field
  field_at n mine p = then (name_at field_name mine p) (λ f q. then (type_at n q) (λ t r. Ok (record { name = f; ty = t }, r)))

  abbrev pub params_at : ℕ → ℕ → Read (List Ty)
  params_at n p = then (at_most file max_params p) (λ k q. counted (λ _. type_at n) k [] q)

  -- a result type, tested against the method that class s sees under the name
  abbrev pub result_at : ℕ → Program → ℕ → ℕ → List Ty → ℕ → Read Ty
  result_at n before s name params p =
      then (type_at n p) (λ t q. checked (override_keeps before s name params t) (Override p) (Ok (t, q)))

  abbrev pub extras_at : ℕ → ℕ → Read ℕ
  extras_at params p = then (any_at file p) (λ k q. checked (registers_keep params k) (Outside p) (Ok (k, q)))

  -- code and handlers, where the set has `used` of them already
  abbrev pub code_at : ℕ → ℕ → Read (List Instr)
  code_at used p = then (any_at file p) (λ k q. checked (code_keeps used k) (Outside p) (counted (λ _. instr_at) k [] q))

  abbrev pub handlers_at : ℕ → ℕ → Read (List Handler)
  handlers_at used p = then (any_at file p) (λ k q. checked (handlers_keep used k) (Outside p) (counted (λ _. handler_at) k [] q))

  -- a method behind the methods `mine` of its class, which lies under s and behind the classes `before`
  unfoldable pub method_at : ℕ → Program → ℕ → List MethodDecl → ℕ → Read MethodDecl
  method_at n before s mine p =
      then (name_at method_name mine p) (λ name q.
      then (params_at n q) (λ params r.
      then (result_at n before s name params r) (λ result t.
      then (at_most file max_height t) (λ height u.
      then (extras_at (length params) u) (λ extras v.
      then (code_at (program_code before + count_code mine) v) (λ code w.
      then (handlers_at (program_handlers before + count_handlers mine) w) (λ handlers x.
      Ok (record { name = name; params = params; result = result; height = height; extras = extras; code = code; handlers = handlers }, x))))))))

  abbrev pub superclass_at : Program → ℕ → Read ℕ
  superclass_at before p = then (any_at file p) (λ s q. checked (is_class before s) (Classless p) (Ok (s, q)))

  abbrev pub fields_at : ℕ → Program → ℕ → ℕ → Read (List Field)
  fields_at n before s p = then (any_at file p) (λ k q. checked (fields_keep before s k) (Outside p) (counted (field_at n) k [] q))

  abbrev pub methods_at : ℕ → Program → ℕ → ℕ → Read (List MethodDecl)
  methods_at n before s p = then (any_at file p) (λ k q. checked (methods_keep before k) (Outside p) (counted (method_at n before s) k [] q))

  -- a class behind the classes `before`
  unfoldable pub class_at : ℕ → Program → ℕ → Read ClassDecl
  class_at n before p =
      then (superclass_at before p) (λ s q.
      then (fields_at n before s q) (λ fields r.
      then (methods_at n before s r) (λ methods t.
      Ok (record { superclass = s; fields = fields; methods = methods }, t))))

  -- k more classes, where there are n in all
  unfoldable pub classes_at : ℕ → ℕ → Program → ℕ → Read Program
  classes_at n k before p = counted (class_at n) k before p

  -- a file ends behind its classes
  abbrev pub ended : Read Program → Result Program TableFault
  ended (Ok r) = cond (nat_le (length file) r.1) (Ok r.0) (Err (LeftOver r.1))
  ended (Err e) = Err e

  -- a whole file; four classes are built in
  unfoldable pub parse : Result Program TableFault
  parse = ended (then (at_most file max_classes 0) (λ k q. classes_at (4 + k) k [] q))

-- what a set holds afterwards: nothing, where the file was refused
abbrev pub filled : Result Program TableFault → Program
filled (Ok P) = P
filled (Err e) = []
