use Rattle.pg_moves.proofs.Common.{has, other, count_below}
use Rattle.pg_moves.proofs.PinLemmas.{FoundTo}
use Rattle.pg_moves.proofs.guards.pinned_along.Given as goal

abbrev pub invariant-loop-attacker : goal.invariant-loop-attacker
invariant-loop-attacker l = FoundTo l.board (other l.fn.color) l.fn.kind l.seen l.initial.left l.left l.found

abbrev pub decreases-loop-attacker : goal.decreases-loop-attacker
decreases-loop-attacker l = count_below (has l.left) 64
