-- The lemmas of Fronts.
use Rattle.pg_checker.proofs.Fronts.{visit_err, halts_visit}
use Rattle.pg_checker.proofs.laws.stops_at_the_first_cause.Goals as goal

pub returns : goal.returns
returns g c = λ r exact n k h p s f. (visit_err r exact n k h p s f, λ d. halts_visit r exact n k h p s d.state d.front d.place f d.fits d.took d.cause)
