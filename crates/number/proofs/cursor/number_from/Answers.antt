-- Each way out of the loop answers as one more group does.
use Rattle.std.proofs.Common.{◌+◌, ◌-◌, ◌*◌, ◌^◌, ◌<◌, ◌≤◌, length, drop, length-drop, add-zero, refl, arith}
use Rattle.std.proofs.lemmas.List.{take_all}
use Rattle.number.specs.Numbers.{number_at}
use Rattle.number.proofs.Groups.{scale_part, last_fits, more_fits}
use Rattle.number.proofs.cursor.number_from.Goals as goal

pub loop-group-init : goal.loop-group-init
unfolding number_at
loop-group-init c =
    let e = take_all (length c.args.file.now - c.args.start) (drop c.args.start c.args.file.now) (omega (arith, length-drop c.args.start c.args.file.now)) in
    (rw (e, add-zero) refl, refl, omega arith, omega arith)

pub overflow_mul-result : goal.overflow_mul-result
overflow_mul-result c =
    let p = last_fits c.loop-group.group c.loop-group.scale c.loop-group.value c.from.result c.loop-group.invariant.1 (omega arith) (omega arith) (omega arith) (grind arith) in omega arith

pub overflow_add-result : goal.overflow_add-result
overflow_add-result c =
    let p = last_fits c.loop-group.group c.loop-group.scale c.loop-group.value c.from.result c.loop-group.invariant.1 (omega arith) (omega arith) (omega arith) (grind arith) in omega arith

-- a group with another behind it
module _ (c : goal.After-from-in-loop-group) where
  below : c.loop-group.group < 4
  below = grind arith

  part : c.loop-group.scale ≤ 2 ^ 21
  part = scale_part _ _ c.loop-group.invariant.1 below

  sum : c.loop-group.value + c.loop-group.scale * c.from-in-loop-group.result < c.loop-group.scale * 128
  sum = more_fits _ _ _ (omega arith) (omega arith)

pub overflow_mul-value : goal.overflow_mul-value
overflow_mul-value c = omega (arith, part c, sum c)

pub overflow_add-value : goal.overflow_add-value
overflow_add-value c = omega (arith, part c, sum c)
