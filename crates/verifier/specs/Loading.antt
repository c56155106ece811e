-- What loading answers and leaves: reading, then verifying. Assumes nothing.
use Rattle.std.specs.Prelude.{◌≡◌, ℕ, List, [], Ok, Err}
use Rattle.format.specs.declared.fault.TableFault.{TableFault}
use Rattle.format.specs.Parse.{parse}
use Rattle.set.specs.declared.set.Set.{Set}
use Rattle.set.specs.Sets.{set_program}
use Rattle.verifier.specs.declared.accepted.Accepted.{Accepted}
use Rattle.verifier.specs.declared.fault.VerifierFault.{VerifierFault}
use Rattle.verifier.specs.declared.load_fault.LoadFault.{LoadFault}
use Rattle.verifier.specs.declared.load_fault.LoadFault.TheVariants.{Table, Verifier}
use Rattle.verifier.specs.Verifying.{Accepts, Refuses}

-- the file is read and the set accepted
pub record Loads (file : List ℕ) (set' : Set) (ws ws' : List ℕ) (place' : Accepted) : Type 0 where
  pub reads : parse file ≡ Ok (set_program set')
  pub accepts : Accepts set' ws ws' place'

-- the file is not read: no set is left, and all else is as it was
pub record NotRead (e : TableFault) (file : List ℕ) (set' : Set) (ws ws' : List ℕ) (place place' : Accepted) : Type 0 where
  pub refused : parse file ≡ Err e
  pub empty : set_program set' ≡ []
  pub untouched : ws' ≡ ws
  pub unchanged : place' ≡ place

-- the file is read and the set refused
pub record NotAccepted (e : VerifierFault) (file : List ℕ) (set' : Set) (ws ws' : List ℕ) (place place' : Accepted) : Type 0 where
  pub reads : parse file ≡ Ok (set_program set')
  pub refuses : Refuses e set' ws ws' place place'

abbrev pub NotLoaded : LoadFault → List ℕ → Set → List ℕ → List ℕ → Accepted → Accepted → Type 0
NotLoaded (Table e) file set' ws ws' place place' = NotRead e file set' ws ws' place place'
NotLoaded (Verifier e) file set' ws ws' place place' = NotAccepted e file set' ws ws' place place'
