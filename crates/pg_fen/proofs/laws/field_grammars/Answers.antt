use Rattle.pg_fen.proofs.GrammarLemmas.{placement_grammar}
use Rattle.pg_fen.proofs.DetailLemmas.{details_read, details_spelled}
use Rattle.pg_fen.proofs.laws.field_grammars.Goals as goal

pub returns-clause-placement : goal.returns-clause-placement
returns-clause-placement c = λ b. placement_grammar c.args.placement.now b

pub returns-clause-details : goal.returns-clause-details
returns-clause-details c = λ d. (details_read _ _ _ _ _ d, details_spelled _ _ _ _ _ d)
