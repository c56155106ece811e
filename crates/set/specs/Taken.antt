-- What a reader does with a cursor: it stays in its file, and the answer is what stands there.
use Rattle.std.specs.Prelude.{◌≡◌, ℕ, List, Result}
use Rattle.number.specs.declared.cursor.Cursor.{Cursor}
use Rattle.number.specs.Numbers.{Gave}
use Rattle.number.specs.Places.{file_of, place_of}
use Rattle.format.specs.Reading.{Read}
use Rattle.format.specs.declared.fault.TableFault.{TableFault}

-- from the cursor c to the cursor d of the same file, R holds of the place reached and of what X reads in the file at the place
pub record Went {A : Type 0} (c d : Cursor) (R : ℕ → Read A → Type 0) (X : List ℕ → ℕ → Read A) : Type 0 where
  pub file : file_of d ≡ file_of c
  pub gave : R (place_of d) (X (file_of c) (place_of c))

-- from the cursor c to the cursor d, the answer r is what X reads in the file at the place
abbrev pub Took : {A : Type 0} → Result A TableFault → Cursor → Cursor → (List ℕ → ℕ → Read A) → Type 0
Took r c d X = Went c d (Gave r) X
