use Rattle.pg_moves.proofs.Common.{refl}
use Rattle.pg_moves.proofs.CountLemmas.{one_count, number_of, number_is, count_none, count_more}
use Rattle.pg_moves.proofs.laws.one_game_count.Goals as goal

pub returns : goal.returns
returns c = record { one = one_count; some = λ p k pos. (number_of k p, number_is k p pos); none = λ p. count_none p 0 refl; more = count_more }
