use Rattle.pg_moves.proofs.Common.{◌≡◌, has, count_below, men_from, AreToCome}
use Rattle.pg_moves.proofs.turns.begin_each.Given as goal

abbrev pub invariant-loop-from : goal.invariant-loop-from
invariant-loop-from l = record {
  kept : l.turn ≡ l.fn.turn;
  to_come : AreToCome l.pins (men_from l.fn.turn.last) l.left;
}

abbrev pub decreases-loop-from : goal.decreases-loop-from
decreases-loop-from l = count_below (has l.left) 64
