-- Which handlers an instruction must reckon with. Assumes nothing.
use Rattle.std.specs.Prelude.{ℕ, ◌-◌, ◌<◌, ◌≤◌, List, ◌∷◌, length, drop}
use Rattle.jinja.specs.declared.instr.Instr.{Instr}
use Rattle.jinja.specs.declared.instr.Instr.TheVariants.{New, Getfield, Putfield, Checkcast, Invoke, Throw}
use Rattle.jinja.specs.declared.program.Handler.{Handler}
use Rattle.jinja.specs.Program.{Program}
use Rattle.jinja.specs.Classes.{AtOrBelow}

abbrev pub null_pointer : ℕ
null_pointer = 1

abbrev pub class_cast : ℕ
class_cast = 2

abbrev pub out_of_memory : ℕ
out_of_memory = 3

-- the instruction may throw what a handler of this class catches
pub data MayThrow (P : Program) : Instr → ℕ → Type 0 where
  by_throw : {c : ℕ} → MayThrow P Throw c
  by_invoke : {m n c : ℕ} → MayThrow P (Invoke m n) c
  by_getfield : {f d c : ℕ} → AtOrBelow P null_pointer c → MayThrow P (Getfield f d) c
  by_putfield : {f d c : ℕ} → AtOrBelow P null_pointer c → MayThrow P (Putfield f d) c
  by_checkcast : {d c : ℕ} → AtOrBelow P class_cast c → MayThrow P (Checkcast d) c
  by_new : {d c : ℕ} → AtOrBelow P out_of_memory c → MayThrow P (New d) c

-- from the first instruction to before the end
pub record Covers (x : Handler) (pc : ℕ) : Type 0 where
  pub from : x.first ≤ pc
  pub to : pc < x.end

pub record Relevant (P : Program) (i : Instr) (pc : ℕ) (x : Handler) : Type 0 where
  pub covers : Covers x pc
  pub throws : MayThrow P i x.class

-- the lowest d cells
abbrev pub lowest : {A : Type 0} → ℕ → List A → List A
lowest d st = drop (length st - d) st

pub data In {A : Type 0} (a : A) : List A → Type 0 where
  first : {xs : List A} → In a (a ∷ xs)
  later : {b : A} {xs : List A} → In a xs → In a (b ∷ xs)
