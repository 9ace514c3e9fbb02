use Rattle.pg_journeys.proofs.MeasuredLemmas.{measured_aims}
use Rattle.pg_journeys.proofs.measured.Measured.paths.Goals as goal

pub returns : goal.returns
returns c = measured_aims c.args.self.now
