use Rattle.pg_journeys.proofs.Common.{ℕ, sym, ap, subst, has, Color, Pawn, other, IsSetOf, InPattern, known, LedTo}
use Rattle.pg_journeys.proofs.PawnLemmas.{taken_back}
use Rattle.pg_journeys.proofs.ground.Ground.captured_to.Goals as goal

pub returns : goal.returns
returns c =
    let g = c.args.self.now in
    let struck : IsSetOf c.struck_by-struck.result (LedTo (λ s r. InPattern (other g.color) Pawn s r) c.bitand-to.result) = subst (λ (x : Color). IsSetOf c.struck_by-struck.result (LedTo (λ s r. InPattern x Pawn s r) c.bitand-to.result)) c.other.ensures c.struck_by-struck.ensures in
    taken_back (known g.facts) g.color g.free c.requires.free c.args.set c.bitand-free.result c.lands.result c.bitand-to.result c.struck_by-struck.result c.bitand.result c.bitand-free.ensures.members (λ q. ap (λ (x : ℕ). has x q) (sym c.lands.ensures)) c.bitand-to.ensures.members struck c.bitand.ensures.members
