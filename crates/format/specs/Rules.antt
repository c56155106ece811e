-- The limits and rules that a program keeps, each as a test. Assumes nothing.
use Rattle.std.specs.Prelude.{ℕ, ◌+◌, ◌^◌, Bool, true, false, ◌&&◌, List, [], ◌∷◌, ◌++◌, length, Some, None, Option, nat_le, nat_lt}
use Rattle.number.specs.Signed.{unsigned}
use Rattle.jinja.specs.declared.ty.Ty.{Ty}
use Rattle.jinja.specs.declared.instr.Literal.{Literal}
use Rattle.jinja.specs.declared.instr.Literal.TheVariants.{Unit, Null, Boolean, Integer}
use Rattle.jinja.specs.declared.instr.Instr.{Instr}
use Rattle.jinja.specs.declared.instr.Instr.TheVariants.{Load, Store, Push, Pop, New, Getfield, Putfield, Checkcast, Invoke, Return, IAdd, CmpEq, IfFalse, Goto, Throw}
use Rattle.jinja.specs.declared.program.Field.{Field}
use Rattle.jinja.specs.declared.program.Handler.{Handler}
use Rattle.jinja.specs.Program.{MethodDecl, ClassDecl, Program}
use Rattle.jinja.specs.Types.{type_exists}
use Rattle.jinja.specs.Classes.{maybe, is_class}
use Rattle.jinja.specs.Lookups.{position, fields_of, count_methods, method_at, sees, overrides}
use Rattle.format.specs.Limits.{max_classes, max_fields, max_methods, max_params, max_height, max_registers, max_code, max_instrs, max_handlers, max_name, max_operand, max_handler_number, max_offset}

-- every test of a list passes
abbrev pub all_of : List Bool → Bool
all_of [] = true
all_of (b ∷ bs) = b && all_of bs

-- every item passes
abbrev pub each : {A : Type 0} → (A → Bool) → List A → Bool
each test [] = true
each test (x ∷ xs) = test x && each test xs

-- every item passes in the light of those before it, of which `before` come first
abbrev pub each_after : {A : Type 0} → (List A → A → Bool) → List A → List A → Bool
each_after test before [] = true
each_after test before (x ∷ xs) = test before x && each_after test (before ++ x ∷ []) xs

-- no item has that name yet
abbrev pub unused : {A : Type 0} → (A → ℕ) → ℕ → List A → Bool
unused name n xs = maybe (position name n xs) true (λ _. false)

abbrev pub field_name : Field → ℕ
field_name f = f.name

abbrev pub method_name : MethodDecl → ℕ
method_name m = m.name

-- every signed number of 32 bits
abbrev pub literal_keeps : Literal → Bool
literal_keeps Unit = true
literal_keeps Null = true
literal_keeps (Boolean b) = true
literal_keeps (Integer z) = nat_lt (unsigned z) (2 ^ 32)

-- operands are within their limits; what they name need not exist
abbrev pub instr_keeps : Instr → Bool
instr_keeps (Load n) = nat_le n max_operand
instr_keeps (Store n) = nat_le n max_operand
instr_keeps (Push v) = literal_keeps v
instr_keeps Pop = true
instr_keeps (New c) = nat_le c max_operand
instr_keeps (Getfield f c) = nat_le f max_name && nat_le c max_operand
instr_keeps (Putfield f c) = nat_le f max_name && nat_le c max_operand
instr_keeps (Checkcast c) = nat_le c max_operand
instr_keeps (Invoke m n) = nat_le m max_name && nat_le n max_operand
instr_keeps Return = true
instr_keeps IAdd = true
instr_keeps CmpEq = true
instr_keeps (IfFalse z) = nat_le (unsigned z) max_offset
instr_keeps (Goto z) = nat_le (unsigned z) max_offset
instr_keeps Throw = true

abbrev pub handler_keeps : Handler → Bool
handler_keeps h =
    all_of (nat_le h.first max_handler_number ∷ nat_le h.end max_handler_number ∷ nat_le h.class max_operand
    ∷ nat_le h.target max_handler_number ∷ nat_le h.depth max_handler_number ∷ [])

-- instructions and handlers of methods, and of classes
abbrev pub count_code : List MethodDecl → ℕ
count_code [] = 0
count_code (m ∷ ms) = length m.code + count_code ms

abbrev pub count_handlers : List MethodDecl → ℕ
count_handlers [] = 0
count_handlers (m ∷ ms) = length m.handlers + count_handlers ms

abbrev pub program_code : Program → ℕ
program_code [] = 0
program_code (c ∷ cs) = count_code c.methods + program_code cs

abbrev pub program_handlers : Program → ℕ
program_handlers [] = 0
program_handlers (c ∷ cs) = count_handlers c.methods + program_handlers cs

-- the registers of a method fit: this object, p parameters and the extras
abbrev pub registers_keep : ℕ → ℕ → Bool
registers_keep p extras = nat_le (1 + p + extras) max_registers

-- n instructions may follow `used` others of the set
abbrev pub code_keeps : ℕ → ℕ → Bool
code_keeps used n = all_of (nat_le 1 n ∷ nat_le n max_code ∷ nat_le (used + n) max_instrs ∷ [])

abbrev pub handlers_keep : ℕ → ℕ → Bool
handlers_keep used n = nat_le (used + n) max_handlers

-- n more fields may stand beside those that class s has
abbrev pub fields_keep : Program → ℕ → ℕ → Bool
fields_keep before s n = nat_le (length (fields_of before s) + n) max_fields

abbrev pub methods_keep : Program → ℕ → Bool
methods_keep before n = nat_le (count_methods before + n) max_methods

-- a method as far as its types go
abbrev pub heading : ℕ → List Ty → Ty → MethodDecl
heading name params result = record { name = name; params = params; result = result; height = 0; extras = 0; code = []; handlers = [] }

-- the method that class s sees under that name
abbrev pub inherited : Program → ℕ → ℕ → Option MethodDecl
inherited before s name = maybe (sees before s name) None (λ k. maybe (method_at before k) None (λ o. Some o.method))

-- a method of a class under s overrides what s sees under its name
abbrev pub override_keeps : Program → ℕ → ℕ → List Ty → Ty → Bool
override_keeps before s name params result = maybe (inherited before s name) true (λ upper. overrides (heading name params result) upper)

-- a field behind the fields `mine` of its class, where there are n classes in all
abbrev pub field_keeps : ℕ → List Field → Field → Bool
field_keeps n mine f = all_of (nat_le f.name max_name ∷ unused field_name f.name mine ∷ type_exists n f.ty ∷ [])

-- a method behind the methods `mine` of its class, which lies under s and behind the classes `before`
abbrev pub method_keeps : ℕ → Program → ℕ → List MethodDecl → MethodDecl → Bool
method_keeps n before s mine m =
    all_of (nat_le m.name max_name ∷ unused method_name m.name mine ∷ nat_le (length m.params) max_params
    ∷ each (type_exists n) m.params ∷ type_exists n m.result ∷ override_keeps before s m.name m.params m.result
    ∷ nat_le m.height max_height ∷ registers_keep (length m.params) m.extras
    ∷ code_keeps (program_code before + count_code mine) (length m.code) ∷ each instr_keeps m.code
    ∷ handlers_keep (program_handlers before + count_handlers mine) (length m.handlers) ∷ each handler_keeps m.handlers ∷ [])

-- a class behind the classes `before`: its superclass is one of those or built in
abbrev pub class_keeps : ℕ → Program → ClassDecl → Bool
class_keeps n before c =
    all_of (is_class before c.superclass ∷ fields_keep before c.superclass (length c.fields) ∷ each_after (field_keeps n) [] c.fields
    ∷ methods_keep before (length c.methods) ∷ each_after (method_keeps n before c.superclass) [] c.methods ∷ [])

-- a program keeps all limits and rules; four classes are built in
unfoldable pub keeps : Program → Bool
keeps P = nat_le (length P) max_classes && each_after (class_keeps (4 + length P)) [] P
