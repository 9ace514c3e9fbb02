-- The lemmas of Whole and Full.
use Rattle.pg_checker.proofs.Whole.{full_certificate}
use Rattle.pg_checker.proofs.Full.{full_accepted}
use Rattle.pg_checker.proofs.laws.complete_has_a_certificate.Goals as goal

pub returns-clause-fits : goal.returns-clause-fits
returns-clause-fits g c = λ r p h. full_certificate r p h

pub returns-clause-accepted : goal.returns-clause-accepted
returns-clause-accepted g c = λ r exact p h a b few. full_accepted r exact p h a b few
