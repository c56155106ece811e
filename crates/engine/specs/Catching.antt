-- Where a thrown object is caught, among the frames that stand. Assumes nothing.
use Rattle.std.specs.Prelude.{◌≡◌, ℕ, ◌+◌, ◌<◌, List, [], ◌∷◌, drop, Some, None, Option, ⊤}
use Rattle.stack.specs.Stacked.{held}
use Rattle.heap.specs.declared.value.Value.{Value}
use Rattle.heap.specs.declared.value.Value.TheVariants as value
use Rattle.heap.specs.Meaning.{Meaning}
use Rattle.jinja.specs.declared.program.Handler.{Handler}
use Rattle.jinja.specs.Classes.{maybe}
use Rattle.jinja.specs.Options.{◌>>=◌}
use Rattle.jinja.specs.Program.{Program}
use Rattle.jinja.specs.Lookups.{method_at}
use Rattle.jinja.specs.Step.{Frame as Activation, Next, goes, threw, at_place, catcher, catch, unwind}
use Rattle.engine.specs.declared.frame.Frame.{Frame}
use Rattle.engine.specs.Views.{frame_of, lowest_frames}

-- the handler of the frame's method that catches an object of class c, if there is such a method
abbrev pub looked : Program → ℕ → Activation → Option (Option Handler)
looked P c f = maybe (method_at P f.method) None (λ m. Some (catcher P m.method.handlers f.pc c))

-- the top frame goes on at the handler's target
abbrev pub catch_top : Program → Meaning → ℕ → Handler → List Activation → Option Next
catch_top P h a x [] = None
catch_top P h a x (f ∷ rest) = method_at P f.method >>= λ M. catch P h a M (Some x) f rest None

-- what becomes of an object of class c that is thrown in the topmost of the n lowest frames
abbrev pub Caught : Program → ℕ → List Frame → ℕ → Option (Option (ℕ × Handler)) → Type 0
Caught P c fs n None = (h : Meaning) (a : ℕ) → unwind P h a c (lowest_frames fs n) ≡ None
Caught P c fs n (Some None) = (h : Meaning) (a : ℕ) → unwind P h a c (lowest_frames fs n) ≡ Some (threw a)
Caught P c fs n (Some (Some (k, x))) = (k < n) × ((h : Meaning) (a : ℕ) → unwind P h a c (lowest_frames fs n) ≡ catch_top P h a x (lowest_frames fs (k + 1)))

-- a handler that was found in the frame f is used where r holds, with the lowest cells
abbrev pub Lands : Program → Handler → Activation → List Value → Option ⊤ → Type 0
Lands P x f cells r = (h : Meaning) (a : ℕ) (rest : List Activation) → catch_top P h a x (f ∷ rest) ≡ (r >>= λ _. Some (goes h (at_place f x.target (value.Addr a ∷ cells) ∷ rest)))

-- the frames with the handler in use at k: given by its frame in memory, without a default for what is not there
abbrev pub land : Handler → ℕ → List Frame → List Activation → List Activation
land x a [] rest = []
land x a (f ∷ fs) rest = at_place (frame_of f) x.target (value.Addr a ∷ held f.cells x.depth) ∷ rest

abbrev pub Landed : Handler → ℕ → List Frame → ℕ → List Activation
Landed x a fs k = land x a (drop k fs) (lowest_frames fs k)

abbrev pub LandsAt : Program → Handler → List Frame → ℕ → Option ⊤ → Type 0
LandsAt P x fs k r = (h : Meaning) (a : ℕ) → catch_top P h a x (lowest_frames fs (k + 1)) ≡ (r >>= λ _. Some (goes h (Landed x a fs k)))
