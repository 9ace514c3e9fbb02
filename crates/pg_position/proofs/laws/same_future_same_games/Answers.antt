use Rattle.pg_position.proofs.FutureLemmas.{same_games, same_ends, future_sym}
use Rattle.pg_position.proofs.laws.same_future_same_games.Goals as goal

pub returns-clause-games : goal.returns-clause-games
returns-clause-games c = λ p q ms h. (same_games p q ms h, same_games q p ms (future_sym p q h))

pub returns-clause-ends : goal.returns-clause-ends
returns-clause-ends c = λ p q pos also h ms r s g k. same_ends p q ms r s pos h g k
