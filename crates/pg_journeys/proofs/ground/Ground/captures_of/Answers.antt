use Rattle.pg_journeys.proofs.Common.{ℕ, sym, ap, has, known}
use Rattle.pg_journeys.proofs.PawnLemmas.{taken_ahead}
use Rattle.pg_journeys.proofs.ground.Ground.captures_of.Goals as goal

pub returns : goal.returns
returns c = (let g = c.args.self.now in taken_ahead (known g.facts) g.color g.free c.requires.free c.args.set c.bitand-from.result c.struck_by-struck.result c.bitand-kept.result c.lands.result c.bitand.result c.bitand-from.ensures.members c.struck_by-struck.ensures c.bitand-kept.ensures.members (λ q. ap (λ (x : ℕ). has x q) (sym c.lands.ensures)) c.bitand.ensures.members)
