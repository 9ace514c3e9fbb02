use Rattle.pg_journeys.proofs.Common.{refl}
use Rattle.pg_journeys.proofs.Lifting.{dead_back, shown_back}
use Rattle.pg_journeys.proofs.shown.with_resting.Goals as goal

pub returns-in-None : goal.returns-in-None
returns-in-None c = λ f d p k b rest h. dead_back f d p c.args.resting k b c.args.shown c.in-None.is rest h

pub returns-in-Some : goal.returns-in-Some
returns-in-Some c = λ f d p k b rest h. shown_back f d p c.args.resting k b c.args.shown c.in-Some.shown _ c.in-Some.is (record { changed = c.sub.ensures.members; lands = refl; quiet_lands = refl; falls = refl; quiet_falls = refl }) rest h
