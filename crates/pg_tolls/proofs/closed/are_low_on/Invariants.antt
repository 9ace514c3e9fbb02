use Rattle.pg_tolls.proofs.Common.{◌≡◌, ◌<◌, ℕ, false, [], get_or, has, rank, count_below, AreAtMost}
use Rattle.pg_tolls.proofs.closed.are_low_on.Given as goal

abbrev pub invariant-loop-square : goal.invariant-loop-square
invariant-loop-square l = (q : ℕ) → q < 64 → rank q ≡ l.rank → has l.left q ≡ false → AreAtMost (get_or l.rows q []) (get_or l.bounds q []) 16

abbrev pub decreases-loop-square : goal.decreases-loop-square
decreases-loop-square l = count_below (has l.left) 64
