use Rattle.pg_journeys.proofs.Common.{merely}
use Rattle.pg_journeys.proofs.OneMeasure.{measured_too}
use Rattle.pg_journeys.proofs.shown.in_quiet_moves.Goals as goal

pub invariant_of-result : goal.invariant_of-result
invariant_of-result c = record {
  low = c.args.moves.now.low;
  size = c.args.moves.now.size;
  made = merely (measured_too c.args.moves.now c.requires.moves c.requires.none);
}
