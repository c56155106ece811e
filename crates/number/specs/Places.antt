-- What a cursor is to a reader: a file, and a place in it.
use Rattle.std.specs.Prelude.{ℕ, List}
use Rattle.number.specs.declared.cursor.Cursor.{Cursor}

-- the file that a cursor goes over, and where it stands
abbrev pub file_of : Cursor → List ℕ
file_of c = c.file.now

abbrev pub place_of : Cursor → ℕ
place_of c = c.place
