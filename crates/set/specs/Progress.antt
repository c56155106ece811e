-- Tables between classes, and while the methods of a class are read, of which the first has the number `first`.
use Rattle.std.specs.Prelude.{◌≡◌, ℕ, ◌+◌, ◌*◌, ◌≤◌, List, [], ◌∷◌, ◌++◌, length, drop, Ok, Err, Result, MatchResult}
use Rattle.jinja.specs.Program.{MethodDecl, Program}
use Rattle.jinja.specs.Lookups.{count_methods}
use Rattle.format.specs.Limits.{max_params, max_fields}
use Rattle.format.specs.Rules.{count_code, count_handlers, program_code, program_handlers}
use Rattle.format.specs.Reading.{Read, then}
use Rattle.format.specs.Parse.{method_at, class_at}
use Rattle.tables.specs.declared.tables.Tables.{Tables}
use Rattle.tables.specs.Views.{classes_of, fields_of, methods_of, params_of, instrs_of, handlers_of, method_views, program_of}

-- the methods that the class has so far
abbrev pub mine : ℕ → Tables → List MethodDecl
mine first t = drop first (method_views t)

-- every instruction and handler belongs to a class or to one of these methods, and no method has too many parameters
pub record Tallied (first : ℕ) (t : Tables) : Type 0 where
  pub within : first ≤ length (methods_of t)
  pub code : length (instrs_of t) ≡ program_code (program_of t) + count_code (mine first t)
  pub handlers : length (handlers_of t) ≡ program_handlers (program_of t) + count_handlers (mine first t)
  pub params : length (params_of t) ≤ max_params * length (methods_of t)

-- k more methods, and the classes as they were
pub record MoreMethods (k : ℕ) (t u : Tables) : Type 0 where
  pub methods : length (methods_of u) ≡ length (methods_of t) + k
  pub classes : classes_of u ≡ classes_of t
  pub fields : fields_of u ≡ fields_of t
  pub program : program_of u ≡ program_of t

-- the methods with one more, read at p
abbrev pub method_step : List ℕ → ℕ → Program → ℕ → List MethodDecl → ℕ → Read (List MethodDecl)
method_step file n before s ms p = then (method_at file n before s ms p) (λ m q. Ok (ms ++ m ∷ [], q))

-- tables between two classes: each method belongs to a class, and no class has too many fields
pub record Full (t : Tables) : Type 0 where
  pub whole : count_methods (program_of t) ≡ length (methods_of t)
  pub tallied : Tallied (length (methods_of t)) t
  pub fields : length (fields_of t) ≤ max_fields * length (classes_of t)

-- the answer r of a call that leaves s and the tables t is what X says, and the tables stand between two classes
abbrev pub LeftFull : {R S E : Type 0} → Result R E → Tables → S → Result S E → Type 0
LeftFull r t s X = MatchResult r (λ _. (X ≡ Ok s) × Full t) (λ e. X ≡ Err e)

-- tables that hold nothing
pub record Empty (t : Tables) : Type 0 where
  pub classes : classes_of t ≡ []
  pub fields : fields_of t ≡ []
  pub methods : methods_of t ≡ []
  pub params : params_of t ≡ []
  pub instrs : instrs_of t ≡ []
  pub handlers : handlers_of t ≡ []

-- the classes with one more, read at p
abbrev pub class_step : List ℕ → ℕ → Program → ℕ → Read Program
class_step file n before p = then (class_at file n before p) (λ c q. Ok (before ++ c ∷ [], q))
