-- The lemmas of Chess.
use Rattle.pg_checker.proofs.Chess.{exact_has_certificate, exact_is_accepted}
use Rattle.pg_checker.proofs.chess_laws.exact_has_a_certificate.Goals as goal

pub returns-clause-fits : goal.returns-clause-fits
returns-clause-fits c = exact_has_certificate

pub returns-clause-accepted : goal.returns-clause-accepted
returns-clause-accepted c = exact_is_accepted
