use Rattle.pg_assignments.proofs.Common.{refl, ◌+◌}
use Rattle.pg_assignments.proofs.TestLemmas.{fits_next}
use Rattle.pg_assignments.proofs.tested.fits.Goals as goal

pub loop-i-preserved : goal.loop-i-preserved
loop-i-preserved c = fits_next c.args.costs.now c.args.rows.now c.args.columns.now c.loop-i.i (c.loop-i.i + 1) refl c.loop-i.invariant (c.if-not-row_fits.ensures refl)
