use Rattle.pg_journeys.proofs.Common.{◌≡◌, ℕ, subst, rank, IsSetOf, known}
use Rattle.pg_journeys.proofs.PawnLemmas.{pushed_ahead}
use Rattle.pg_journeys.proofs.ground.Ground.pushes_of.Goals as goal

pub returns : goal.returns
returns c = (let g = c.args.self.now in pushed_ahead (known g.facts) g.color g.free c.requires.free c.args.set c.bitand-from.result c.ahead_of-once.result c.rank_set.result c.bitand-homed.result c.ahead_of-crossed.result c.ahead_of-twice.result c.bitor.result c.bitand-from.ensures.members c.ahead_of-once.ensures (subst (λ (r : ℕ). IsSetOf c.rank_set.result (λ q. rank q ≡ r)) c.home_rank.ensures.value c.rank_set.ensures) c.bitand-homed.ensures.members c.ahead_of-crossed.ensures c.ahead_of-twice.ensures c.bitor.ensures.members)
