use Rattle.pg_moves.proofs.Common.{◌≡◌, ◌≤◌, ◌-◌, ◌*◌, start_after}
use Rattle.pg_moves.proofs.SearchLemmas.{IsGood}
use Rattle.pg_moves.proofs.PairLemmas.{AreBelow}
use Rattle.pg_moves.proofs.counting.count_two.Given as goal

abbrev pub invariant-loop-m : goal.invariant-loop-m
invariant-loop-m l = record {
  position : l.left.position ≡ l.position;
  good : IsGood l.left.last;
  sum : AreBelow l.position 1 (start_after l.left.last) l.total;
  bound : l.total ≤ 28672 * start_after l.left.last;
}

abbrev pub decreases-loop-m : goal.decreases-loop-m
decreases-loop-m l = 28672 - start_after l.left.last
