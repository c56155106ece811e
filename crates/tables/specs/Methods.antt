-- The methods of tables by their numbers, and what each has.
use Rattle.std.specs.Prelude.{◌≡◌, ℕ, List, [], length, Some, None, Option}
use Rattle.std.specs.List.{slice_get}
use Rattle.jinja.specs.declared.ty.Ty.{Ty}
use Rattle.jinja.specs.declared.instr.Instr.{Instr}
use Rattle.jinja.specs.declared.program.Handler.{Handler}
use Rattle.jinja.specs.Program.{MethodDecl}
use Rattle.jinja.specs.Classes.{maybe}
use Rattle.jinja.specs.Lookups.{Owned, count_methods}
use Rattle.tables.specs.declared.records.Span.{Span}
use Rattle.tables.specs.declared.records.MethodRec.{MethodRec}
use Rattle.tables.specs.declared.tables.Tables.{Tables}
use Rattle.tables.specs.Spans.{part, Within}
use Rattle.tables.specs.Views.{params_of, instrs_of, handlers_of, methods_of, method_view, method_views, program_of}

abbrev pub method_of : Tables → ℕ → Option MethodDecl
method_of t k = slice_get (method_views t) k

-- what is no method has nothing
abbrev pub params_in : Tables → ℕ → List Ty
params_in t k = maybe (method_of t k) [] (λ m. m.params)

abbrev pub code_in : Tables → ℕ → List Instr
code_in t k = maybe (method_of t k) [] (λ m. m.code)

abbrev pub handlers_in : Tables → ℕ → List Handler
handlers_in t k = maybe (method_of t k) [] (λ m. m.handlers)

-- the items ys are a span of xs
pub record Lies {A : Type 0} (s : Span) (xs ys : List A) : Type 0 where
  pub within : Within (length xs) s
  pub items : part s xs ≡ ys

-- m is the record of the method k
pub record Stands (t : Tables) (k : ℕ) (m : MethodRec) : Type 0 where
  pub method : method_of t k ≡ Some (method_view (params_of t) (instrs_of t) (handlers_of t) m)
  pub params : Lies m.params (params_of t) (params_in t k)
  pub code : Lies m.code (instrs_of t) (code_in t k)
  pub handlers : Lies m.handlers (handlers_of t) (handlers_in t k)

-- there is no method k
pub record Lacks (t : Tables) (k : ℕ) : Type 0 where
  pub method : method_of t k ≡ None
  pub params : params_in t k ≡ []
  pub code : code_in t k ≡ []
  pub handlers : handlers_in t k ≡ []

-- each method belongs to a class
abbrev pub Whole : Tables → Type 0
Whole t = count_methods (program_of t) ≡ length (methods_of t)

abbrev pub owner_of : Option Owned → Option ℕ
owner_of o = maybe o None (λ m. Some m.owner)

abbrev pub unowned : Option Owned → Option MethodDecl
unowned o = maybe o None (λ m. Some m.method)
