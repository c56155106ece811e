-- The step of Return: the frame below takes the value. Assumes nothing.
use Rattle.std.proofs.Common.{◌≡◌, ℕ, suc, ◌-◌, ◌<◌, ◌≤◌, true, List, [], ◌∷◌, length, Some, None, sym, ap, ◌∙◌, add-one, arith}
use Rattle.std.specs.Prelude.{⊤}
use Rattle.std.specs.List.{slice_get}
use Rattle.std.proofs.lemmas.List.{length-drop}
use Rattle.std.proofs.lemmas.Bool.{false≢true, lt-ltb, le-ltb}
use Rattle.heap.specs.declared.value.Value.{Value}
use Rattle.heap.specs.Meaning.{Meaning}
use Rattle.jinja.specs.declared.instr.Instr.TheVariants.{Return}
use Rattle.jinja.specs.Options.{◌>>=◌, ◌>>◌, top, top_of}
use Rattle.jinja.specs.Program.{Program}
use Rattle.jinja.specs.Lookups.{Owned, method_at}
use Rattle.jinja.specs.Values.{fits}
use Rattle.jinja.specs.Step.{Frame, return_to}
use Rattle.jinja.proofs.Options.{conflict, some_inj, nth_inside}
use Rattle.engine.specs.Limits.{cell_limit}
use Rattle.engine.specs.Stepping.{top_stack, exec_top}
use Rattle.engine.specs.Calling.{below, Resumes}
use Rattle.engine.proofs.CallOperands.{operands_are, operands_none}

module _ (P : Program) (n : ℕ) (f : Frame) (rest : List Frame) where
  refused : ((h : Meaning) (v : Value) → return_to P h v n (f ∷ rest) ≡ None) → Resumes P n (f ∷ rest) None
  refused e = record { does = e; few = λ z. absurd (false≢true z); high = λ z. absurd (false≢true z); low = λ z. absurd (false≢true z) }

  -- no method
  pub resumes_lost : method_at P f.method ≡ None → Resumes P n (f ∷ rest) None
  resumes_lost e = refused (λ h v. rw e)

  -- too few operands
  pub resumes_short : {M : Owned} → method_at P f.method ≡ Some M → length f.stack ≤ n → Resumes P n (f ∷ rest) None
  resumes_short e l = refused (λ h v. rw (e, operands_none n f.stack l))

  pub resumes_there : {M : Owned} {u : ⊤} → method_at P f.method ≡ Some M → n < length f.stack → length f.stack ≤ cell_limit → M.method.height ≤ cell_limit → length f.stack - suc n < M.method.height → Resumes P n (f ∷ rest) (Some u)
  resumes_there {M} e l c m k =
      let w = nth_inside f.stack n l in
      record {
        does = λ h v. rw (e, operands_are n f.stack w.1, length-drop (suc n) f.stack, lt-ltb _ _ k, add-one n);
        few = λ _. omega arith;
        high = λ _. omega arith;
        low = λ _. omega arith;
      }

  -- too many operands left
  pub resumes_high : {M : Owned} → method_at P f.method ≡ Some M → n < length f.stack → M.method.height ≤ length f.stack - suc n → Resumes P n (f ∷ rest) None
  resumes_high e l k =
      let w = nth_inside f.stack n l in
      refused (λ h v. rw (e, operands_are n f.stack w.1, length-drop (suc n) f.stack, le-ltb _ _ k))

-- of a value that fits
return_fits : (P : Program) (h : Meaning) (M : Owned) (fs : List Frame) {v : Value} → Some v ≡ slice_get (top_stack fs) 0 → fits P h v M.method.result ≡ true → exec_top P Return h M fs ≡ return_to P h v (length M.method.params) (below fs)
return_fits P h M [] e t = absurd (conflict (sym e))
return_fits P h M (f ∷ rest) {v} e t = go f.stack e
  where
    n : ℕ
    n = length M.method.params

    go : (st : List Value) → Some v ≡ slice_get st 0 → (top_of st >>= λ p. elim p [ top w stk ↦ fits P h w M.method.result >> return_to P h w n rest ]) ≡ return_to P h v n rest
    go [] q = absurd (conflict (sym q))
    go (w ∷ stk) q = let s : w ≡ v = sym (some_inj q) in rw (s, t)

pub return_of : (P : Program) (h : Meaning) (M : Owned) (fs : List Frame) {v : Value} {n : ℕ} → Some v ≡ slice_get (top_stack fs) 0 → fits P h v M.method.result ≡ true → length M.method.params ≡ n → exec_top P Return h M fs ≡ return_to P h v n (below fs)
return_of P h M fs {v} e t p = return_fits P h M fs e t ∙ ap (λ n. return_to P h v n (below fs)) p
