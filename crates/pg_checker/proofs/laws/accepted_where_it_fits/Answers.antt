-- The lemmas of Whole, one for each direction.
use Rattle.pg_checker.proofs.Whole.{accepted, accepts}
use Rattle.pg_checker.proofs.laws.accepted_where_it_fits.Goals as goal

pub returns : goal.returns
returns g c = λ r exact p a b bytes x. (accepted r exact p a b bytes x, accepts r exact p a b bytes x)
