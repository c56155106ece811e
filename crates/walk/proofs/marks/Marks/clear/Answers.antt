-- One digit is cleared.
use Rattle.std.proofs.Common.{ℕ, ◌/◌, ◌%◌, false, get_or, set, sym, subst, arith}
use lib.Bits.{bit_xor}
use Rattle.std.proofs.lemmas.Nat.{one_shl}
use Rattle.walk.specs.Marks.{Turned}
use Rattle.walk.proofs.Words.{turned_off}
use Rattle.walk.proofs.marks.Marks.clear.Goals as goal

pub returns : goal.returns
returns c =
    let ws = c.args.self.now.words in
    let k = c.args.k in
    subst (λ (b : ℕ). Turned ws k false (set ws (k / 64) (bit_xor (get_or ws (k / 64) 0) b))) (sym (one_shl (k % 64) 64 (omega arith))) (turned_off ws k (omega arith) c.requires.there)
