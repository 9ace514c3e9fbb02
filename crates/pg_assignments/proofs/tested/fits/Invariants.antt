use Rattle.pg_assignments.proofs.Common.{cost, nth, Fits}
use Rattle.pg_assignments.proofs.tested.fits.Given as goal

abbrev pub invariant-loop-i : goal.invariant-loop-i
invariant-loop-i l = Fits (cost l.costs) (nth l.rows) (nth l.columns) l.i 16
