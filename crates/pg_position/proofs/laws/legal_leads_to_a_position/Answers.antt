use Rattle.pg_position.proofs.FutureLemmas.{legal_position}
use Rattle.pg_position.proofs.laws.legal_leads_to_a_position.Goals as goal

pub returns : goal.returns
returns c = legal_position
