use Rattle.pg_tolls.proofs.Common.{◌+◌, refl, arith, known, stated}
use Rattle.pg_tolls.proofs.ClosingLemmas.{layers_next}
use Rattle.pg_tolls.proofs.closed.is_closed.Goals as goal

pub loop-marks-preserved : goal.loop-marks-preserved
loop-marks-preserved c = layers_next (stated c.args.tariff.now) (known c.args.ground.now.facts) c.args.ground.now.color c.args.goals.now c.args.table.now c.loop-marks.marks (c.loop-marks.marks + 1) refl (c.if-not-is_layer_closed.ensures refl) c.loop-marks.invariant

pub returns : goal.returns
returns c = λ t j l. c.loop-marks.invariant j (omega (arith, c.loop-marks-test.false))
