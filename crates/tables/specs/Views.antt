-- The program that tables stand for.
use Rattle.std.specs.Prelude.{List, map}
use Rattle.filled.specs.Items.{items_of}
use Rattle.jinja.specs.declared.ty.Ty.{Ty}
use Rattle.jinja.specs.declared.instr.Instr.{Instr}
use Rattle.jinja.specs.declared.program.Field.{Field}
use Rattle.jinja.specs.declared.program.Handler.{Handler}
use Rattle.jinja.specs.Program.{MethodDecl, ClassDecl, Program}
use Rattle.tables.specs.declared.records.ClassRec.{ClassRec}
use Rattle.tables.specs.declared.records.MethodRec.{MethodRec}
use Rattle.tables.specs.declared.tables.Tables.{Tables}
use Rattle.tables.specs.Spans.{part}

-- what each table holds
abbrev pub classes_of : Tables → List ClassRec
classes_of t = items_of t.classes

abbrev pub fields_of : Tables → List Field
fields_of t = items_of t.fields

abbrev pub methods_of : Tables → List MethodRec
methods_of t = items_of t.methods

abbrev pub params_of : Tables → List Ty
params_of t = items_of t.params

abbrev pub instrs_of : Tables → List Instr
instrs_of t = items_of t.instrs

abbrev pub handlers_of : Tables → List Handler
handlers_of t = items_of t.handlers

-- the method of a record whose types, code and handlers lie in ts, is and hs
abbrev pub method_view : List Ty → List Instr → List Handler → MethodRec → MethodDecl
method_view ts is hs r =
    record {
      name = r.name;
      params = part r.params ts;
      result = r.result;
      height = r.height;
      extras = r.extras;
      code = part r.code is;
      handlers = part r.handlers hs;
    }

-- the class of a record whose fields and methods lie in fs and ms
abbrev pub class_view : List Field → List MethodDecl → ClassRec → ClassDecl
class_view fs ms r = record { superclass = r.superclass; fields = part r.fields fs; methods = part r.methods ms }

-- the methods of the tables, by their numbers
abbrev pub method_views : Tables → List MethodDecl
method_views t = map (method_view (params_of t) (instrs_of t) (handlers_of t)) (methods_of t)

unfoldable pub program_of : Tables → Program
program_of t = map (class_view (fields_of t) (method_views t)) (classes_of t)
