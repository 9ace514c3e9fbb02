-- The lemmas of Whole and Stops: one for each direction, and one for want of memory.
use Rattle.pg_checker.proofs.Whole.{at_named, stopped}
use Rattle.pg_checker.proofs.Stops.{stops}
use Rattle.pg_checker.proofs.laws.refused_at_the_first_cause.Goals as goal

pub returns-clause-cause : goal.returns-clause-cause
returns-clause-cause g c = λ r exact p a b bytes f. (stopped r exact p a b bytes f, stops r exact p a b bytes f)

pub returns-clause-memory : goal.returns-clause-memory
returns-clause-memory g c = λ r exact plain p a b fewer bytes less h. at_named r exact plain p a b fewer bytes less h
