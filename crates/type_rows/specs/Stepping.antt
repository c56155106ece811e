-- A step of a method over a frame of types: what its instruction sends, or nothing where a need fails.
use Rattle.std.specs.Prelude.{◌≡◌, ℕ, Option}
use Rattle.jinja.specs.declared.instr.Instr.{Instr}
use Rattle.jinja.specs.Program.{Program}
use Rattle.jinja.specs.Lookups.{Owned}
use Rattle.jinja.specs.Transfer.{transfer}
use Rattle.tables.specs.Views.{program_of}
use Rattle.type_rows.specs.declared.frame.TypeFrame.{TypeFrame}
use Rattle.type_rows.specs.declared.leads.Leads.{Leads}
use Rattle.type_rows.specs.declared.method.Method.{Method}
use Rattle.type_rows.specs.Leading.{told}
use Rattle.type_rows.specs.Methods.{the_method}
use Rattle.type_rows.specs.TypeFrames.{frame_types, frame_cells}

abbrev pub program : Method → Program
program m = program_of m.tables.now

abbrev pub owned : Method → Owned
owned m = the_method (program m) m.number

-- what the instruction sends from one frame, by where it leads and the frame that it makes of it
abbrev pub Steps : Method → Instr → ℕ → TypeFrame → Option Leads → TypeFrame → Type 0
Steps m i pc f r g = transfer (program m) (owned m) i pc (frame_types f) (frame_cells m.registers f) ≡ told r pc (frame_types g) (frame_cells m.registers g)

-- m is the method of the number k in the program P
pub record MethodOf (P : Program) (k : ℕ) (m : Method) : Type 0 where
  pub of_program : program m ≡ P
  pub of_number : m.number ≡ k
