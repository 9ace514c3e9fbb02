use Rattle.pg_moves.proofs.Common.{◌<◌, ◌≤◌, ◌+◌, ◌-◌, ◌*◌, place_of, Adds, Covers}
use Rattle.pg_moves.proofs.leaves.walked.Given as goal

abbrev pub invariant-loop-m : goal.invariant-loop-m
invariant-loop-m l = record {
  target : l.target.to < 64;
  place : l.target.number ≤ 7;
  bound : l.total ≤ l.target.to * 7 + l.target.number;
  covers : Covers l.position l.from l.set;
  walked : Adds l.position (place_of l.from 0 0) (place_of l.from l.target.to l.target.number) l.total;
}

abbrev pub decreases-loop-m : goal.decreases-loop-m
decreases-loop-m l = 448 - (l.target.to * 7 + l.target.number)
