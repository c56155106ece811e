-- The instruction of the top frame. Assumes nothing.
use Rattle.std.proofs.Common.{◌≡◌, ◌<◌, ◌≤◌, List, [], ◌∷◌, length, Some, None, refl, arith}
use Rattle.std.specs.List.{slice_get}
use Rattle.std.proofs.lemmas.Option.{slice_get_past}
use Rattle.heap.specs.Meaning.{Meaning}
use Rattle.jinja.specs.declared.instr.Instr.{Instr}
use Rattle.jinja.specs.Program.{Program}
use Rattle.jinja.specs.Lookups.{Owned, method_at}
use Rattle.jinja.specs.Step.{Frame, next_step}
use Rattle.engine.specs.Stepping.{top_method, top_pc, exec_top}

module _ (P : Program) (h : Meaning) where
  -- behind the code
  pub next_past : (fs : List Frame) {M : Owned} → method_at P (top_method fs) ≡ Some M → length M.method.code ≤ top_pc fs → next_step P h fs ≡ None
  next_past [] e l = refl
  next_past (f ∷ rest) {M} e l = rw (e, slice_get_past M.method.code f.pc l)

  pub next_is : (fs : List Frame) {M : Owned} {i : Instr} → 0 < length fs → method_at P (top_method fs) ≡ Some M → slice_get M.method.code (top_pc fs) ≡ Some i → next_step P h fs ≡ exec_top P i h M fs
  next_is [] l e n = absurd (omega arith)
  next_is (f ∷ rest) l e n = rw (e, n)
