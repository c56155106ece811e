-- The limits of a rule set, as src/limits.rt has them for the code. Assumes nothing.
use Rattle.std.specs.Prelude.{ℕ, ◌+◌, ◌*◌}

-- own classes of a set
abbrev pub max_classes : ℕ
max_classes = 28

-- fields of a class, inherited ones included
abbrev pub max_fields : ℕ
max_fields = 8

-- methods of a set
abbrev pub max_methods : ℕ
max_methods = 64

abbrev pub max_params : ℕ
max_params = 8

abbrev pub max_height : ℕ
max_height = 16

-- registers of a method: this object, the parameters and the extras
abbrev pub max_registers : ℕ
max_registers = 16

-- instructions of a method, and of a set
abbrev pub max_code : ℕ
max_code = 256

abbrev pub max_instrs : ℕ
max_instrs = 1024

-- handlers of a set
abbrev pub max_handlers : ℕ
max_handlers = 64

abbrev pub max_name : ℕ
max_name = 255

-- classes, registers and argument counts in instructions, and a handler's class
abbrev pub max_operand : ℕ
max_operand = 255

-- a handler's first, end, target and depth
abbrev pub max_handler_number : ℕ
max_handler_number = 256

-- the greatest number that stands for a jump offset
abbrev pub max_offset : ℕ
max_offset = 510

-- classes in all, the four built-in ones included
abbrev pub all_classes : ℕ
all_classes = 4 + max_classes

-- the fields that all classes declare together, and the parameters of all methods
abbrev pub all_fields : ℕ
all_fields = max_classes * max_fields

abbrev pub all_params : ℕ
all_params = max_methods * max_params
