-- What was passed over leads elsewhere, and fewer moves are left at each turn.
use Rattle.pg_checker.proofs.Common.{length, left_after, PassesOver}
use Rattle.pg_checker.proofs.nearness.skip_to_solution.Given as goal

abbrev pub invariant-loop-peeked : goal.invariant-loop-peeked
invariant-loop-peeked l = PassesOver l.diagram l.initial.moves l.moves

abbrev pub decreases-loop-peeked : goal.decreases-loop-peeked
decreases-loop-peeked l = length (left_after l.moves.position l.moves.last)
