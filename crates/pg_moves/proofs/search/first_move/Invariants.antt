use Rattle.pg_moves.proofs.Common.{◌≤◌, ◌-◌, place_of, NoneFrom}
use Rattle.pg_moves.proofs.search.first_move.Given as goal

abbrev pub invariant-loop-square : goal.invariant-loop-square
invariant-loop-square l = record {
  reached : l.from ≤ l.at;
  within : l.at ≤ 64;
  none : NoneFrom l.pins (place_of l.from l.target.to l.target.number) (place_of l.at 0 0);
}

abbrev pub decreases-loop-square : goal.decreases-loop-square
decreases-loop-square l = 64 - l.at
