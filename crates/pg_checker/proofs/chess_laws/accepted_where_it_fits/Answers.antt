-- The lemmas of Whole, one for each direction.
use Rattle.pg_checker.proofs.Common.{array_state, chess}
use Rattle.pg_checker.proofs.Chess.{chess_exact}
use Rattle.pg_checker.proofs.Whole.{accepted, accepts}
use Rattle.pg_checker.proofs.chess_laws.accepted_where_it_fits.Goals as goal

pub returns : goal.returns
returns c = λ d n games cut a b bytes x. let r = chess d n games cut in let exact = chess_exact d n games cut in (accepted r exact array_state a b bytes x, accepts r exact array_state a b bytes x)
