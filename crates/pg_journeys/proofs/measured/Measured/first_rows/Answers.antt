use Rattle.pg_journeys.proofs.MeasuredLemmas.{measured_rows}
use Rattle.pg_journeys.proofs.measured.Measured.first_rows.Goals as goal

pub returns : goal.returns
returns c = measured_rows c.args.self.now
