use Rattle.pg_tolls.proofs.Common.{◌+◌, refl, known}
use Rattle.pg_tolls.proofs.ClosingLemmas.{piece_next}
use Rattle.pg_tolls.proofs.closed.piece_fits.Goals as goal

pub loop-at-preserved : goal.loop-at-preserved
loop-at-preserved c = piece_next (known c.args.ground.now.facts) c.args.ground.now.color c.args.kind c.args.weight c.args.rows.now c.args.coming.now c.least_of-behind.result c.grown.result c.loop-at.at (c.loop-at.at + 1) c.at.result c.steps.result refl c.at.ensures c.steps.ensures c.least_of-behind.ensures.low c.grown.ensures (c.if-not-is_low.ensures refl) c.loop-at.invariant
