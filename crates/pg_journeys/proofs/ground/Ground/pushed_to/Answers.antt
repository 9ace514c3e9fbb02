use Rattle.pg_journeys.proofs.Common.{◌≡◌, ℕ, subst, Color, other, rank, IsSetOf, known, IsAheadOf}
use Rattle.pg_journeys.proofs.PawnLemmas.{pushed_back}
use Rattle.pg_journeys.proofs.ground.Ground.pushed_to.Goals as goal

pub returns : goal.returns
returns c =
    let g = c.args.self.now in
    let first : IsSetOf c.ahead_of-once.result (IsAheadOf (other g.color) c.bitand-to.result g.free) = subst (λ (x : Color). IsSetOf c.ahead_of-once.result (IsAheadOf x c.bitand-to.result g.free)) c.other-back.ensures c.ahead_of-once.ensures in
    let next : IsSetOf c.ahead_of-twice.result (IsAheadOf (other g.color) c.ahead_of-once.result g.free) = subst (λ (x : Color). IsSetOf c.ahead_of-twice.result (IsAheadOf x c.ahead_of-once.result g.free)) c.other-back.ensures c.ahead_of-twice.ensures in
    pushed_back (known g.facts) g.color g.free c.requires.free c.args.set c.bitand-to.result c.ahead_of-once.result c.ahead_of-twice.result c.rank_set.result c.bitand-homed.result c.bitor.result c.bitand-to.ensures.members first next (subst (λ (r : ℕ). IsSetOf c.rank_set.result (λ q. rank q ≡ r)) c.home_rank.ensures.value c.rank_set.ensures) c.bitand-homed.ensures.members c.bitor.ensures.members
