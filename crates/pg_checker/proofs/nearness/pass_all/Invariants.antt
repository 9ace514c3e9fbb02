-- The position stays, and fewer moves are left at each turn.
use Rattle.pg_checker.proofs.Common.{◌≡◌, length, left_after}
use Rattle.pg_checker.proofs.nearness.pass_all.Given as goal

abbrev pub invariant-loop-m : goal.invariant-loop-m
invariant-loop-m l = l.moves.position ≡ l.initial.moves.position

abbrev pub decreases-loop-m : goal.decreases-loop-m
decreases-loop-m l = length (left_after l.moves.position l.moves.last)
