use Rattle.pg_journeys.proofs.Common.{ℕ, InRing}
use Rattle.pg_journeys.proofs.EndLemmas.{none_next}
use Rattle.pg_journeys.proofs.plans.first_ring.Goals as goal

pub loop-n-preserved : goal.loop-n-preserved
loop-n-preserved c = none_next (λ (n : ℕ). InRing c.args.rings.now c.args.man.now n) c.loop-n.n c.has_man.result c.has_man.ensures c.if-has_man.false c.loop-n.invariant
