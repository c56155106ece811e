-- The step of Invoke. Assumes nothing.
use Rattle.std.proofs.Common.{◌≡◌, ℕ, suc, ◌-◌, ◌<◌, ◌≤◌, true, List, [], ◌∷◌, length, Some, None, sym, refl, inl, inr}
use Rattle.std.specs.List.{slice_get}
use Rattle.std.proofs.lemmas.List.{length-drop}
use Rattle.std.proofs.lemmas.Bool.{cases_lt, lt-ltb, le-ltb}
use Rattle.heap.specs.declared.value.Value.{Value}
use Rattle.heap.specs.Meaning.{Meaning}
use Rattle.jinja.specs.declared.instr.Instr.TheVariants.{Invoke}
use Rattle.jinja.specs.Program.{Program}
use Rattle.jinja.specs.Lookups.{Owned, method_at, sees}
use Rattle.jinja.specs.Values.{class_of, fit_all}
use Rattle.jinja.specs.Step.{Frame, null_pointer_at, on_reference, raise}
use Rattle.jinja.proofs.Options.{conflict, nth_inside}
use Rattle.engine.specs.Stepping.{top_stack, exec_top}
use Rattle.engine.specs.Calling.{arguments, fresh, call_top, above}
use Rattle.engine.proofs.CallOperands.{operands_are, operands_none}

module _ (P : Program) (h : Meaning) (m n : ℕ) (M : Owned) where
  -- by its receiver
  pub invoke_on : (fs : List Frame) {r : Value} → Some r ≡ slice_get (top_stack fs) n → exec_top P (Invoke m n) h M fs ≡ on_reference r (raise P h null_pointer_at fs) (λ a. call_top P h m n a M fs)
  invoke_on [] e = absurd (conflict (sym e))
  invoke_on (f ∷ rest) e = rw (operands_are n f.stack (sym e))

  pub invoke_none : (fs : List Frame) → None ≡ slice_get (top_stack fs) n → exec_top P (Invoke m n) h M fs ≡ None
  invoke_none [] e = refl
  invoke_none (f ∷ rest) e = elim (cases_lt n (length f.stack)) [
    | inl l ↦ absurd (let w = nth_inside f.stack n l in conflict (rw (sym e) at w.1))
    | inr l ↦ rw (operands_none n f.stack l)
  ]

  -- the method that is seen, where the arguments fit
  module _ (fs : List Frame) (a : ℕ) {c k : ℕ} {N : Owned} (class : Some c ≡ class_of h a) (seen : Some k ≡ sees P c m) (met : method_at P k ≡ Some N) (fit : fit_all P h (arguments n (top_stack fs)) N.method.params ≡ true) where
    pub call_low : M.method.height ≤ length (top_stack fs) - suc n → call_top P h m n a M fs ≡ None
    call_low l = rw (sym class, sym seen, met, fit, length-drop (suc n) (top_stack fs), le-ltb _ _ l)

    pub call_enters : length (top_stack fs) - suc n < M.method.height → call_top P h m n a M fs ≡ above h (fresh k a (arguments n (top_stack fs)) N.method.extras) fs
    call_enters l = rw (sym class, sym seen, met, fit, length-drop (suc n) (top_stack fs), lt-ltb _ _ l)
