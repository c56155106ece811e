-- What is still to be read gives the answer.
use Rattle.std.proofs.Common.{◌≡◌, ◌+◌, ◌^◌, ◌<◌, ◌≤◌, drop}
use Rattle.number.specs.Numbers.{groups, number_at}
use Rattle.number.proofs.cursor.number_from.Given as goal

abbrev pub invariant-loop-group : goal.invariant-loop-group
invariant-loop-group l =
    (groups l.start l.group l.value l.scale (l.start + l.group) (drop l.group l.rest) ≡ number_at l.file l.start)
    × (l.scale ≡ 128 ^ l.group) × (l.value < l.scale) × (l.group ≤ 4)
