use Rattle.pg_assignments.proofs.Common.{◌≡◌, ◌*◌, ◌<◌, ◌≤◌, ℕ, cost, sum_of, nth, AreHeld}
use Rattle.pg_assignments.proofs.tested.value.Given as goal

abbrev pub invariant-loop-i : goal.invariant-loop-i
invariant-loop-i l = record {
  held : AreHeld l.to l.owner l.costs.size l.i;
  exists : (a : ℕ) → a < l.i → cost l.costs a (nth l.to a) < 255;
  sum : l.sum ≡ sum_of (cost l.costs) (nth l.to) l.i;
  low : l.sum ≤ 254 * l.i;
}
