use Rattle.pg_travel.proofs.Common.{test_is_barren}
use Rattle.pg_travel.proofs.laws.travel_law.Goals as goal

pub returns : goal.returns
returns c = test_is_barren
