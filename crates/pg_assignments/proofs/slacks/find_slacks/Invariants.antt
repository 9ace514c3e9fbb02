use Rattle.pg_assignments.proofs.Common.{◌≡◌, length, cost, nth, Fits, AreNone, IsSlackIf}
use Rattle.pg_assignments.proofs.slacks.find_slacks.Given as goal

abbrev pub invariant-loop-i : goal.invariant-loop-i
invariant-loop-i l = record {
  long : length l.slacks ≡ 16;
  fits : AreNone l.over 16 → Fits (cost l.costs) (nth l.rows) (nth l.columns) l.i 16;
  is : IsSlackIf (cost l.costs) (nth l.rows) (nth l.columns) l.slacks l.i;
}
