-- A file is its count of classes, its classes and nothing else.
use Rattle.std.proofs.Common.{ℕ, ◌+◌, ◌≤◌, leb, List, [], length, sym, ap, ◌∙◌, arith, rules}
use Rattle.std.proofs.lemmas.Result.{err_from_is_err_and}
use Rattle.number.specs.Places.{file_of, place_of}
use Rattle.format.specs.Limits.{max_classes}
use Rattle.format.specs.Reading.{at_most}
use Rattle.format.specs.Parse.{classes_at}
use Rattle.set.proofs.ClassWays.{no_count, no_classes, left_over, all_read}
use Rattle.set.proofs.Emptied.{empty_full}
use Rattle.set.proofs.Ways.{moved}
use Rattle.set.proofs.whole.read_whole.Goals as goal

pub returns-in_err-count : goal.returns-in_err-count
returns-in_err-count c =
    let p = err_from_is_err_and c.from_residual.result c.from_residual.ensures.1 in
    rw (p.1, p.2) (no_count c.args.file.now c.in_err-count.field-0.0 (moved (λ x. at_most x max_classes 0) c.new-c.ensures.file (sym (ap (λ p. at_most (file_of c.new-c.result) max_classes p) c.new-c.ensures.place) ∙ c.in_err-count.ensures.gave)))

pub read_classes-requires : goal.read_classes-requires
read_classes-requires c =
    let k : c.in_ok-count.count ≤ 28 = search rules in
    record { few = omega arith; room = omega (arith, ap length c.clear.ensures.empty.classes); full = empty_full c.clear.new.t c.clear.ensures.empty }

pub returns-in_err-read_classes : goal.returns-in_err-read_classes
returns-in_err-read_classes c =
    let p = err_from_is_err_and c.from_residual-in_err-read_classes.result c.from_residual-in_err-read_classes.ensures.1 in
    let file = c.args.file.now in
    let a_count = moved (λ x. at_most x max_classes 0) c.new-c.ensures.file (sym (ap (λ p. at_most (file_of c.new-c.result) max_classes p) c.new-c.ensures.place) ∙ c.in_ok-count.ensures.gave) in
    let f_count = c.in_ok-count.ensures.file ∙ c.new-c.ensures.file in
    rw (p.1, p.2) (no_classes file _ _ a_count c.in_err-read_classes.field-0.0 (moved (λ x. classes_at x (4 + c.in_ok-count.count) c.in_ok-count.count [] (place_of c.at_most.new.c)) f_count
    (sym (ap (λ P. classes_at (file_of c.at_most.new.c) (4 + c.in_ok-count.count) c.in_ok-count.count P (place_of c.at_most.new.c)) c.clear.ensures.program) ∙ c.in_err-read_classes.ensures.gave)))

pub returns-then-not-at_end : goal.returns-then-not-at_end
returns-then-not-at_end c =
    let file = c.args.file.now in
    let a_count = moved (λ x. at_most x max_classes 0) c.new-c.ensures.file (sym (ap (λ p. at_most (file_of c.new-c.result) max_classes p) c.new-c.ensures.place) ∙ c.in_ok-count.ensures.gave) in
    let f_count = c.in_ok-count.ensures.file ∙ c.new-c.ensures.file in
    let a_classes = moved (λ x. classes_at x (4 + c.in_ok-count.count) c.in_ok-count.count [] (place_of c.at_most.new.c)) f_count
    (sym (ap (λ P. classes_at (file_of c.at_most.new.c) (4 + c.in_ok-count.count) c.in_ok-count.count P (place_of c.at_most.new.c)) c.clear.ensures.program) ∙ c.in_ok-read_classes.ensures.gave.0) in
    let f_classes = c.in_ok-read_classes.ensures.file ∙ f_count in
    let e = ap (λ (x : List ℕ). leb (length x) (place_of c.read_classes.new.c)) (sym f_classes) ∙ sym c.at_end.ensures in
    rw c.place.ensures (left_over file _ _ a_count _ _ a_classes (e ∙ c.if-not-at_end.true))

pub returns : goal.returns
returns c =
    let file = c.args.file.now in
    let a_count = moved (λ x. at_most x max_classes 0) c.new-c.ensures.file (sym (ap (λ p. at_most (file_of c.new-c.result) max_classes p) c.new-c.ensures.place) ∙ c.in_ok-count.ensures.gave) in
    let f_count = c.in_ok-count.ensures.file ∙ c.new-c.ensures.file in
    let a_classes = moved (λ x. classes_at x (4 + c.in_ok-count.count) c.in_ok-count.count [] (place_of c.at_most.new.c)) f_count
    (sym (ap (λ P. classes_at (file_of c.at_most.new.c) (4 + c.in_ok-count.count) c.in_ok-count.count P (place_of c.at_most.new.c)) c.clear.ensures.program) ∙ c.in_ok-read_classes.ensures.gave.0) in
    let f_classes = c.in_ok-read_classes.ensures.file ∙ f_count in
    let e = ap (λ (x : List ℕ). leb (length x) (place_of c.read_classes.new.c)) (sym f_classes) ∙ sym c.at_end.ensures in
    (all_read file _ _ a_count _ _ a_classes (e ∙ c.if-not-at_end.false), c.in_ok-read_classes.ensures.gave.1)
