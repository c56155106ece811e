-- How reading changes tables: one grows at its end, and the others stay as they are.
use Rattle.std.specs.Prelude.{◌≡◌, ℕ, ◌+◌, List, length, take, Ok, Err, Result, MatchResult}
use Rattle.jinja.specs.declared.ty.Ty.{Ty}
use Rattle.jinja.specs.declared.instr.Instr.{Instr}
use Rattle.jinja.specs.declared.program.Field.{Field}
use Rattle.jinja.specs.declared.program.Handler.{Handler}
use Rattle.tables.specs.declared.records.Span.{Span}
use Rattle.tables.specs.declared.records.ClassRec.{ClassRec}
use Rattle.tables.specs.declared.records.MethodRec.{MethodRec}
use Rattle.tables.specs.declared.tables.Tables.{Tables}
use Rattle.tables.specs.Spans.{part}
use Rattle.tables.specs.Views.{classes_of, fields_of, methods_of, params_of, instrs_of, handlers_of}
use Rattle.format.specs.Reading.{Read}
use Rattle.format.specs.declared.fault.TableFault.{TableFault}

-- a table that held `old` holds `new`: the span is that of what came behind
pub record Behind {A : Type 0} (old new : List A) (s : Span) : Type 0 where
  pub front : take (length old) new ≡ old
  pub first : s.first ≡ length old
  pub all : length new ≡ s.first + s.count

-- the answer r is the span of what X says, which stands behind the items of the table
abbrev pub Grew : {A : Type 0} → Result Span TableFault → List A → List A → ℕ → Read (List A) → Type 0
Grew r old new q X = MatchResult r (λ s. (X ≡ Ok (part s new, q)) × Behind old new s) (λ e. X ≡ Err e)

-- what the six tables hold
pub record Lists : Type 0 where
  pub classes : List ClassRec
  pub fields : List Field
  pub methods : List MethodRec
  pub params : List Ty
  pub instrs : List Instr
  pub handlers : List Handler

abbrev pub lists_of : Tables → Lists
lists_of t =
    record { classes = classes_of t; fields = fields_of t; methods = methods_of t; params = params_of t; instrs = instrs_of t; handlers = handlers_of t }
