-- A handler is its five numbers, one behind the other.
use Rattle.std.proofs.Common.{rules}
use Rattle.format.specs.Parse.{handler_at}
use Rattle.set.proofs.items.read_handler.Goals as goal

pub returns-in_err-first : goal.returns-in_err-first
unfolding handler_at
returns-in_err-first c = search rules

pub returns-in_err-end : goal.returns-in_err-end
unfolding handler_at
returns-in_err-end c = search rules

pub returns-in_err-class : goal.returns-in_err-class
unfolding handler_at
returns-in_err-class c = search rules

pub returns-in_err-target : goal.returns-in_err-target
unfolding handler_at
returns-in_err-target c = search rules

pub returns-in_err-depth : goal.returns-in_err-depth
unfolding handler_at
returns-in_err-depth c = search rules

pub returns : goal.returns
unfolding handler_at
returns c = search rules
