use Rattle.pg_journeys.proofs.Common.{◌+◌, refl, arith, ◌∙◌, length-set}
use Rattle.pg_journeys.proofs.RoomLemmas.{rows_next}
use Rattle.pg_journeys.proofs.rooms.rows.Goals as goal

pub loop-i-preserved : goal.loop-i-preserved
loop-i-preserved c = record {
  long = length-set c.loop-i.rooms c.loop-i.i c.row.result ∙ c.loop-i.invariant.long;
  is = rows_next c.args.costs.now c.args.least.now c.args.paid c.args.goals c.loop-i.rooms c.row.result c.loop-i.i (c.loop-i.i + 1) refl (omega (arith, c.loop-i.invariant.long, c.loop-i-test.true, c.requires.size)) c.row.ensures c.loop-i.invariant.is;
}
