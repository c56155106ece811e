-- Whole files: what was written is read, and what is read was written.
use Rattle.std.proofs.Common.{◌≡◌, ℕ, ◌+◌, ◌≤◌, ◌&&◌, leb, List, [], ◌++◌, length, drop, Ok, Err, sym, ap, ◌∙◌, inl, inr, arith}
use Rattle.std.specs.List.{flat_map}
use Rattle.std.proofs.lemmas.List.{append-nil, drop_all}
use Rattle.std.proofs.lemmas.Bool.{cases_Bool, cond-true, leb-true, le-leb, and_parts, and_from}
use Rattle.number.specs.Numbers.{bytes}
use Rattle.jinja.specs.Program.{Program}
use Rattle.format.specs.Limits.{max_classes}
use Rattle.format.specs.Encode.{class_bytes, encode}
use Rattle.format.specs.Rules.{class_keeps, keeps}
use Rattle.format.specs.Reading.{Read, at_most}
use Rattle.format.specs.Parse.{class_at, classes_at, ended, parse}
use Rattle.format.specs.Laws.{WrittenIsRead, ReadWasWritten, FilesAreEncodings, OneProgram}
use Rattle.format.proofs.Counting.{ok_same}
use Rattle.format.proofs.Steps.{Stands, both, split, then_by, then_from, counted_reads, counted_wrote}
use Rattle.format.proofs.Numbers.{at_most_reads, at_most_wrote}
use Rattle.format.proofs.Kept.{few_before}
use Rattle.format.proofs.Classes.{class_reads, class_wrote}

pub written_is_read : WrittenIsRead
unfolding parse classes_at encode keeps
written_is_read P k =
    let file = encode P in
    let n = 4 + length P in
    let h = and_parts (leb (length P) max_classes) _ k in
    let few = leb-true _ _ h.0 in
    let all : Stands file 0 (length file) file = (sym (append-nil file) ∙ ap (λ x. file ++ x) (sym (drop_all (length file) file (omega arith))), omega arith) in
    let w = split file 0 (length file) (bytes (length P)) (flat_map class_bytes P) all in
    let a = at_most_reads file max_classes 0 w.0 (length P) (omega arith) h.0 w.1 in
    let b = counted_reads file (class_at file n) class_bytes (λ b c. leb (length b) max_classes && class_keeps n b c)
    (λ acc p q c ok s. (let t = and_parts (leb (length acc) max_classes) (class_keeps n acc c) ok in class_reads file n (omega arith) acc p q c (leb-true _ _ t.0) t.1 s)) P [] w.0 (length file) (few_before (class_keeps n) P [] (omega arith) h.1) w.2 in
    ap (ended file) (then_from (at_most file max_classes 0) _ (length P) w.0 _ a b) ∙ cond-true (leb (length file) (length file)) _ _ (le-leb (length file) (length file) (omega arith))

pub ended_ok : (file : List ℕ) (x : Read Program) (P : Program) → ended file x ≡ Ok P → (q : ℕ) × (x ≡ Ok (P, q)) × (length file ≤ q)
ended_ok file (Ok r) P e = elim (cases_Bool (leb (length file) r.1)) [
  | inl t ↦ (r.1, ap (λ z. Ok (z, r.1)) (ok_same r.0 P (rw t at e)), leb-true _ _ t)
  | inr t ↦ cc (rw t at e)
]
ended_ok file (Err f) P e = cc

pub read_was_written : ReadWasWritten
unfolding parse classes_at encode keeps
read_was_written file P small e =
    let w = ended_ok file _ P e in
    then_by (at_most file max_classes 0) (λ k q. classes_at file (4 + k) k [] q) P w.0 w.1 (λ n r e₁ f₁.
    let few = at_most_wrote file small max_classes 0 r n e₁ in
    let v = counted_wrote file (class_at file (4 + n)) class_bytes (class_keeps (4 + n)) (class_wrote file small (4 + n)) n P r w.0 f₁ in
    let s = both file 0 r w.0 (bytes n) (flat_map class_bytes P) few.1 v.2 in
    let end : drop w.0 file ≡ [] = drop_all w.0 file w.2 in
    let whole : file ≡ bytes n ++ flat_map class_bytes P = s.0 ∙ (ap (λ x. (bytes n ++ flat_map class_bytes P) ++ x) end ∙ append-nil _) in
    rw v.0 (whole, and_from _ _ few.0 v.1))

pub files_are_encodings : FilesAreEncodings
files_are_encodings file P small = record { only = read_was_written file P small; always = λ h. ap parse h.0 ∙ written_is_read P h.1 }

pub one_program : OneProgram
one_program P Q k l e = ok_same P Q (sym (written_is_read P k) ∙ (ap parse e ∙ written_is_read Q l))
