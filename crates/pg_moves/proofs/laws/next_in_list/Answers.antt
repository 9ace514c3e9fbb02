use Rattle.pg_moves.proofs.NextLemmas.{next_start, next_in}
use Rattle.pg_moves.proofs.laws.next_in_list.Goals as goal

pub returns : goal.returns
returns c = record { start = next_start; next = next_in }
