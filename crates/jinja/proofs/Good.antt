-- What a step from a state that fits comes to: never a failed check. Assumes nothing.
use Rattle.std.proofs.Common.{◌≡◌, ℕ, Bool, true, false, cond, List, Some, Option, sym, refl, subst}
use Rattle.heap.specs.declared.value.Value.{Value}
use Rattle.heap.specs.declared.value.Value.TheVariants as value
use Rattle.heap.specs.Meaning.{Meaning}
use Rattle.jinja.specs.declared.ty.Ty.{Ty}
use Rattle.jinja.specs.declared.ty.Ty.TheVariants.{Class}
use Rattle.jinja.specs.Options.{◌>>=◌, ◌>>◌}
use Rattle.jinja.specs.Program.{Program}
use Rattle.jinja.specs.Classes.{AtOrBelow}
use Rattle.jinja.specs.Lookups.{Owned, method_at}
use Rattle.jinja.specs.Rows.{Cell, Row, unreached, reached, Table}
use Rattle.jinja.specs.Order.{LeRow, le_reached}
use Rattle.jinja.specs.WellTyping.{Flows}
use Rattle.jinja.specs.Values.{class_of}
use Rattle.jinja.specs.Step.{Frame, Next, goes, returned, threw, frames_full, on_reference}
use Rattle.jinja.specs.Fits.{Fits, null_fits_class, address_fits, FitAll, FitCells, ObjectsFit, Exceptions, FrameFits, Waits, Below, bottom, caller, Stand}
use Rattle.jinja.proofs.Values.{Grows, all_up, cells_up, all_grow, cells_grow}

module _ (P : Program) (Φ : ℕ → Table) (h : Meaning) (b : ℕ) where
  pub data Good : Option Next → Type 0 where
    good_goes : {h' : Meaning} {fs : List Frame} → ObjectsFit P h' → Exceptions h' → Stand P Φ h' b fs → Good (Some (goes h' fs))
    good_returned : {M : Owned} {v : Value} → method_at P b ≡ Some M → Fits P h v M.method.result → Good (Some (returned v))
    good_threw : {a c : ℕ} → class_of h a ≡ Some c → Good (Some (threw a))
    good_full : Good (Some frames_full)

-- the top frame, the frames below it and the heap
pub record Now (P : Program) (Φ : ℕ → Table) (h : Meaning) (b : ℕ) (f : Frame) (rest : List Frame) (M : Owned) (st : List Ty) (lt : List Cell) : Type 0 where
  pub frame_fits : FrameFits P Φ h f M st lt
  pub below : Below P Φ h b f.method rest
  pub objects : ObjectsFit P h
  pub exceptions : Exceptions h

module _ {P : Program} {Φ : ℕ → Table} {h : Meaning} {b : ℕ} where
  -- a look-up that finds something, and a test that passes
  pub bind : {A : Type 0} {o : Option A} {a : A} (f : A → Option Next) → o ≡ Some a → Good P Φ h b (f a) → Good P Φ h b (o >>= f)
  bind f e g = subst (λ x. Good P Φ h b (x >>= f)) (sym e) g

  pub guard : {t : Bool} {o : Option Next} → t ≡ true → Good P Φ h b o → Good P Φ h b (t >> o)
  guard {o = o} e g = subst (λ x. Good P Φ h b (x >> o)) (sym e) g

  pub either : {x y : Option Next} (t : Bool) → (t ≡ true → Good P Φ h b x) → (t ≡ false → Good P Φ h b y) → Good P Φ h b (cond t x y)
  either true f g = f refl
  either false f g = g refl

  -- a reference that fits a class: Null, or the address of an object at or below it
  pub deref : {x : Value} {d : ℕ} (n : Option Next) (f : ℕ → Option Next) → Fits P h x (Class d) → Good P Φ h b n → ((a c : ℕ) → x ≡ value.Addr a → class_of h a ≡ Some c → AtOrBelow P c d → Good P Φ h b (f a)) → Good P Φ h b (on_reference x n f)
  deref n f (null_fits_class i) g k = g
  deref n f (address_fits e s) g k = k _ _ refl e s

-- what flows to an instruction lies below its row, so the frame fits there
pub frame_at : {P : Program} {Φ : ℕ → Table} {h : Meaning} (f : Frame) {M : Owned} {st : List Ty} {lt : List Cell} → method_at P f.method ≡ Some M → Flows P M (Φ f.method) f.pc st lt → FitAll P h f.stack st → FitCells P h f.registers lt → (st' : List Ty) × (lt' : List Cell) × FrameFits P Φ h f M st' lt'
frame_at {P} {Φ} {h} f {M} {st} {lt} m fl s r = go (Φ f.method f.pc) refl fl.below
  where
    go : (w : Row) → Φ f.method f.pc ≡ w → LeRow P (reached st lt) w → (st' : List Ty) × (lt' : List Cell) × FrameFits P Φ h f M st' lt'
    go unreached e x = elim x [ ]
    go (reached s' l') e (le_reached x y) = (s', l', record { method_is = m; inside = fl.inside; row_is = e; stack_fits = all_up s x; registers_fit = cells_up r y })

module _ {P : Program} {Φ : ℕ → Table} {h h' : Meaning} (g : Grows h h') where
  frame_grow : {f : Frame} {M : Owned} {st : List Ty} {lt : List Cell} → FrameFits P Φ h f M st lt → FrameFits P Φ h' f M st lt
  frame_grow x = record { method_is = x.method_is; inside = x.inside; row_is = x.row_is; stack_fits = all_grow g x.stack_fits; registers_fit = cells_grow g x.registers_fit }

  waits_grow : {f : Frame} {M : Owned} {k : ℕ} → Waits P Φ h f M k → Waits P Φ h' f M k
  waits_grow x = record { name = x.name; count = x.count; address = x.address; class = x.class; callee = x.callee; args = x.args; left = x.left; at_invoke = x.at_invoke; holds = x.holds; class_is = g _ _ x.class_is; seen = x.seen; callee_is = x.callee_is; many = x.many }

  pub below_grow : {b k : ℕ} {fs : List Frame} → Below P Φ h b k fs → Below P Φ h' b k fs
  below_grow bottom = bottom
  below_grow (caller x y z) = caller (frame_grow x) (waits_grow y) (below_grow z)
