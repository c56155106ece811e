-- Methods and classes as the tables have them, and the bytes of a method behind its types.
use Rattle.std.specs.Prelude.{ℕ, List, ◌++◌}
use Rattle.number.specs.Numbers.{bytes}
use Rattle.jinja.specs.Program.{MethodDecl, ClassDecl}
use Rattle.format.specs.Encode.{instr_bytes, handler_bytes, counted_bytes}
use Rattle.tables.specs.declared.records.ClassRec.{ClassRec}
use Rattle.tables.specs.declared.records.MethodRec.{MethodRec}
use Rattle.tables.specs.declared.tables.Tables.{Tables}
use Rattle.tables.specs.Views.{fields_of, params_of, instrs_of, handlers_of, method_view, method_views, class_view}

abbrev pub method_of : Tables → MethodRec → MethodDecl
method_of t m = method_view (params_of t) (instrs_of t) (handlers_of t) m

abbrev pub class_of : Tables → ClassRec → ClassDecl
class_of t c = class_view (fields_of t) (method_views t) c

abbrev pub body_bytes : MethodDecl → List ℕ
body_bytes m = bytes m.height ++ (bytes m.extras ++ (counted_bytes instr_bytes m.code ++ counted_bytes handler_bytes m.handlers))
