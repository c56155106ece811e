-- What the steps of a code do. Assumes nothing.
use Rattle.std.specs.Prelude.{ℕ, Bool, cond, nat_lt}
use Rattle.walk_heights.specs.declared.code.Step.{Step}
use Rattle.walk_heights.specs.declared.code.Step.TheVariants.{Branch, Push}

-- a number below 256 is a branch to that step or the next; any other is a push
abbrev pub is_branch : ℕ → Bool
is_branch c = nat_lt c 256

abbrev pub step_of : ℕ → Step
step_of c = cond (is_branch c) (Branch c) Push
