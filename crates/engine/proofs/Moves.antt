-- Moves of the top frame. Assumes nothing.
use Rattle.std.proofs.Common.{◌≡◌, ℕ, suc, ◌<◌, true, false, ltb, List, ◌∷◌, length, ◌+ℤ◌, Some, None, Option, sym, refl, ◌∙◌, w32}
use Rattle.std.specs.Prelude.{⊤}
use Rattle.std.specs.Int.{int_wrap}
use Rattle.std.proofs.lemmas.Bool.{lt-ltb}
use Rattle.heap.specs.declared.value.Value.{Value}
use Rattle.heap.specs.declared.value.Value.TheVariants as value
use Rattle.heap.specs.Meaning.{Meaning}
use Rattle.jinja.specs.declared.instr.Instr.TheVariants.{Store, IAdd}
use Rattle.jinja.specs.Options.{◌>>=◌, ◌>>◌, top, top_of, two, two_of}
use Rattle.jinja.specs.Program.{Program}
use Rattle.jinja.specs.Lookups.{Owned}
use Rattle.jinja.specs.Transfer.{can_push}
use Rattle.jinja.specs.Step.{Frame, goes, at_place, with_register, as_integer, going, exec}
use Rattle.engine.specs.Moving.{Onward, sum_of}

-- the push at the end of an instruction
pub onward_goes : (r : Option ⊤) {height : ℕ} {f g : Frame} {cells : List Value} {v : Value} → Onward height f cells v r g → (M : Owned) → M.method.height ≡ height → (h : Meaning) (rest : List Frame) → (can_push M cells >> going h f (v ∷ cells) rest) ≡ (r >>= λ _. Some (goes h (g ∷ rest)))
onward_goes (Some u) {height} {f} {g} {cells} {v} o M e h rest =
    let t : ltb (length cells) M.method.height ≡ true = rw e (sym o.told) in
    rw (t, o.moved refl)
onward_goes None {height} {f} {g} {cells} {v} o M e h rest =
    let t : ltb (length cells) M.method.height ≡ false = rw e (sym o.told) in
    rw t

pub store_goes : (P : Program) (M : Owned) (n : ℕ) (f g : Frame) (v : Value) (cells : List Value) → top_of f.stack ≡ Some (top v cells) → n < length f.registers → g ≡ at_place (with_register f n v) (suc f.pc) cells → (h : Meaning) (rest : List Frame) → exec P (Store n) h M f rest ≡ Some (goes h (g ∷ rest))
store_goes P M n f g v cells e l m h rest = rw (e, lt-ltb n (length f.registers) l, m)

-- what follows two look-ups
two_found : {A B C D : Type 0} (o : Option A) (p : Option B) (F : A → B → C) (G : C → Option D) → (o >>= λ a. p >>= λ b. G (F a b)) ≡ ((o >>= λ a. p >>= λ b. Some (F a b)) >>= G)
two_found None p F G = refl
two_found (Some a) None F G = refl
two_found (Some a) (Some b) F G = refl

pub add_goes : (P : Program) (M : Owned) {height : ℕ} {f g : Frame} {r : Option ⊤} {v w z : Value} {cells : List Value} → two_of f.stack ≡ Some (two v w cells) → Some z ≡ sum_of v w → Onward height f cells z r g → M.method.height ≡ height → (h : Meaning) (rest : List Frame) → exec P IAdd h M f rest ≡ (r >>= λ _. Some (goes h (g ∷ rest)))
add_goes P M {f = f} {r = r} {v = v} {w = w} {cells = cells} e s o m h rest =
    rw e
    (two_found (as_integer v) (as_integer w) (λ a b. value.Int (int_wrap w32 (b +ℤ a))) (λ z. can_push M cells >> going h f (z ∷ cells) rest)
    ∙ rw (← s) (onward_goes r o M m h rest))

pub add_refuses : (P : Program) (M : Owned) (f : Frame) {v w : Value} {cells : List Value} → two_of f.stack ≡ Some (two v w cells) → None ≡ sum_of v w → (h : Meaning) (rest : List Frame) → exec P IAdd h M f rest ≡ None
add_refuses P M f {v = v} {w = w} {cells = cells} e s h rest =
    rw e
    (two_found (as_integer v) (as_integer w) (λ a b. value.Int (int_wrap w32 (b +ℤ a))) (λ z. can_push M cells >> going h f (z ∷ cells) rest)
    ∙ rw (← s))
