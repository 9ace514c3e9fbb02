-- The lemma of Chess.
use Rattle.pg_checker.proofs.Chess.{yes_is_exact}
use Rattle.pg_checker.proofs.chess_laws.accepted_is_exact.Goals as goal

pub returns : goal.returns
returns c = yes_is_exact
