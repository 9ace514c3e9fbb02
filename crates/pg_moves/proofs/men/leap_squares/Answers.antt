use Rattle.pg_moves.proofs.Common.{◌≡◌, sym, subst, Color, rank, IsSetOf, leap_rank}
use Rattle.pg_moves.proofs.men.leap_squares.Goals as goal

pub returns-in-White : goal.returns-in-White
returns-in-White c = subst (λ (d : Color). IsSetOf c.of_rank.result (λ q. rank q ≡ leap_rank d)) (sym c.in-White.is) c.of_rank.ensures

pub returns-in-Black : goal.returns-in-Black
returns-in-Black c = subst (λ (d : Color). IsSetOf c.of_rank-in-Black.result (λ q. rank q ≡ leap_rank d)) (sym c.in-Black.is) c.of_rank-in-Black.ensures
