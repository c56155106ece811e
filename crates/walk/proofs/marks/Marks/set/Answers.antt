-- One digit is set.
use Rattle.std.proofs.Common.{ℕ, ◌/◌, ◌%◌, true, get_or, set, sym, subst, arith}
use lib.Bits.{bit_or}
use Rattle.std.proofs.lemmas.Nat.{one_shl}
use Rattle.walk.specs.Marks.{Turned}
use Rattle.walk.proofs.Words.{turned_on}
use Rattle.walk.proofs.marks.Marks.set.Goals as goal

pub returns : goal.returns
returns c =
    let ws = c.args.self.now.words in
    let k = c.args.k in
    subst (λ (b : ℕ). Turned ws k true (set ws (k / 64) (bit_or (get_or ws (k / 64) 0) b))) (sym (one_shl (k % 64) 64 (omega arith))) (turned_on ws k (omega arith))
