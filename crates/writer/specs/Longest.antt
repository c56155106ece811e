-- The longest that a file can be, as src/limits.rt has it for the code. Assumes nothing.
use Rattle.std.specs.Prelude.{ℕ, ◌+◌, ◌*◌}
use Rattle.format.specs.Limits.{max_classes, max_fields, max_methods, max_instrs, max_handlers}

-- the bytes that a field, an instruction and a handler have at most
abbrev pub field_most : ℕ
field_most = 3

abbrev pub instr_most : ℕ
instr_most = 7

abbrev pub handler_most : ℕ
handler_most = 10

-- a class besides its methods: its superclass, two counts and its fields
abbrev pub class_most : ℕ
class_most = 3 + field_most * max_fields

-- a method besides its code and handlers: its name and eight parameters, the result, two sizes and three counts
abbrev pub method_most : ℕ
method_most = 17

abbrev pub longest_file : ℕ
longest_file = 1 + (class_most * max_classes + (method_most * max_methods + (instr_most * max_instrs + handler_most * max_handlers)))
