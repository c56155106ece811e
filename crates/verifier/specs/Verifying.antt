-- What verifying answers and leaves. Assumes nothing.
use Rattle.std.specs.Prelude.{◌≡◌, ℕ, ◌<◌, ◌≤◌, List, length, replicate}
use Rattle.set.specs.declared.set.Set.{Set}
use Rattle.set.specs.Sets.{set_program}
use Rattle.type_rows.specs.Numbers.{absent}
use Rattle.verifier.specs.declared.accepted.Accepted.{Accepted}
use Rattle.verifier.specs.declared.fault.VerifierFault.{VerifierFault}
use Rattle.verifier.specs.declared.fault.VerifierFault.TheVariants.{Short, Untypable}
use Rattle.verifier.specs.Accepted.{accepted_set}
use Rattle.verifier.specs.Limits.{workspace_length}
use Rattle.verifier.specs.Verdicts.{TypedAt, FirstUntyped}

-- every number of a workspace is absent
abbrev pub all_absent : List ℕ → List ℕ
all_absent ws = replicate (length ws) absent

-- the set is accepted: each method has a well-typing, and the place holds the set
pub record Accepts (s : Set) (ws ws' : List ℕ) (place' : Accepted) : Type 0 where
  pub room : workspace_length ≤ length ws
  pub typed : (k : ℕ) → TypedAt (set_program s) k
  pub holds : accepted_set place' ≡ s
  pub after : ws' ≡ all_absent ws

-- the workspace is too short, and nothing changes
pub record TooShort (ws ws' : List ℕ) (place place' : Accepted) : Type 0 where
  pub short : length ws < workspace_length
  pub untouched : ws' ≡ ws
  pub unchanged : place' ≡ place

-- the method k is the first that has no well-typing
pub record Rejects (s : Set) (k : ℕ) (ws ws' : List ℕ) (place place' : Accepted) : Type 0 where
  pub room : workspace_length ≤ length ws
  pub first : FirstUntyped (set_program s) k
  pub after : ws' ≡ all_absent ws
  pub unchanged : place' ≡ place

abbrev pub Refuses : VerifierFault → Set → List ℕ → List ℕ → Accepted → Accepted → Type 0
Refuses Short s ws ws' place place' = TooShort ws ws' place place'
Refuses (Untypable k) s ws ws' place place' = Rejects s k ws ws' place place'
