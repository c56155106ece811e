-- A number is read exactly where it stands.
use Rattle.std.proofs.Common.{◌≡◌, ◌+◌, ◌++◌, length, drop, Ok, sym, ap, ◌∙◌}
use Rattle.number.specs.Numbers.{bytes}
use Rattle.number.specs.Laws.{ReadStands, StandingIsRead}
use Rattle.number.proofs.Forms.{shortest_bytes, shortest_same}
use Rattle.number.proofs.Law.{number_reads, read}

pub read_stands : ReadStands
read_stands file p n q small e =
    let w = read file p n q small e in
    record { groups = bytes n; shortest = shortest_bytes n w.0; below = w.0; here = w.1; behind = w.2 }

pub standing_read : StandingIsRead
standing_read file p n q w =
    let same = shortest_same n w.groups w.below w.shortest in
    let here = w.here ∙ ap (λ l. l ++ drop q file) same in
    let behind : p + length (bytes n) ≡ q = ap (λ l. p + length l) (sym same) ∙ sym w.behind in
    number_reads file p n (drop q file) w.below here ∙ ap (λ x. Ok (n, x)) behind
