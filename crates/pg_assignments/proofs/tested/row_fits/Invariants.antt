use Rattle.pg_assignments.proofs.Common.{◌≡◌, true, RowFits}
use Rattle.pg_assignments.proofs.tested.row_fits.Given as goal

abbrev pub invariant-loop-j : goal.invariant-loop-j
invariant-loop-j l = l.fits ≡ true → RowFits l.costs l.price l.columns l.j
