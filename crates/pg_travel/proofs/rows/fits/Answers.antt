use Rattle.pg_travel.proofs.Common.{arith}
use Rattle.pg_travel.proofs.RowTables.{equal_zero, fits_next, fits_all}
use Rattle.pg_travel.proofs.rows.fits.Goals as goal

pub loop-i-preserved : goal.loop-i-preserved
loop-i-preserved c = fits_next c.args.prices c.args.row c.args.u c.loop-i.i c.loop-i.above c.saturating_sub-above.result c.loop-i-test.element_fits.fits (omega (arith, c.saturating_sub-above.ensures, c.saturating_sub.ensures)) c.loop-i.invariant

pub returns : goal.returns
returns c = fits_all c.args.prices c.args.row c.args.u c.loop-i.i c.loop-i.above _ (omega (arith, c.loop-i-test.false, c.loop-i.auto.i-end)) (equal_zero c.loop-i.above) c.loop-i.invariant
