-- The lemmas of Whole and Stops: one for each direction, and one for want of memory.
use Rattle.pg_checker.proofs.Common.{array_state, chess}
use Rattle.pg_checker.proofs.Chess.{chess_exact, chess_plain}
use Rattle.pg_checker.proofs.Whole.{at_named, stopped}
use Rattle.pg_checker.proofs.Stops.{stops}
use Rattle.pg_checker.proofs.chess_laws.refused_at_the_first_cause.Goals as goal

pub returns-clause-cause : goal.returns-clause-cause
returns-clause-cause c = λ d n games cut a b bytes f. let r = chess d n games cut in let exact = chess_exact d n games cut in (stopped r exact array_state a b bytes f, stops r exact array_state a b bytes f)

pub returns-clause-memory : goal.returns-clause-memory
returns-clause-memory c = λ d n games cut a b fewer bytes less h. at_named (chess d n games cut) (chess_exact d n games cut) (chess_plain d n games cut) array_state a b fewer bytes less h
