use Rattle.pg_position.proofs.FutureLemmas.{one_result}
use Rattle.pg_position.proofs.laws.legal_leads_to_one_position.Goals as goal

pub returns : goal.returns
returns c = one_result
