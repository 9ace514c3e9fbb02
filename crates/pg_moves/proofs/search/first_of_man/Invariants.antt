use Rattle.pg_moves.proofs.Common.{◌≤◌, ◌-◌, place_of, NoneFrom, Covers}
use Rattle.pg_moves.proofs.search.first_of_man.Given as goal

abbrev pub invariant-loop-square : goal.invariant-loop-square
invariant-loop-square l = record {
  reached : l.target.to ≤ l.at;
  within : l.at ≤ 64;
  covers : Covers l.position l.from l.set;
  none : NoneFrom l.position (place_of l.from l.target.to l.target.number) (place_of l.from l.at 0);
}

abbrev pub decreases-loop-square : goal.decreases-loop-square
decreases-loop-square l = 64 - l.at
