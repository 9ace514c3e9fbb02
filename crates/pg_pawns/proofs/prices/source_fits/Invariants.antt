use Rattle.pg_pawns.proofs.Common.{◌≡◌, ℕ, ◌-◌, ◌<◌, ◌≤◌, Pawn, Stands, any_pawn, number_among, price, PairFits}
use Rattle.pg_pawns.proofs.prices.source_fits.Given as goal

abbrev pub invariant-loop-t : goal.invariant-loop-t
invariant-loop-t l = record { is : l.place ≡ number_among l.color any_pawn l.goal l.from; seen : (t : ℕ) → t < l.from → Stands l.goal l.color Pawn t → PairFits l.color l.s l.u t (price l.v l.color any_pawn l.goal t); within : l.from ≤ 64 }

abbrev pub decreases-loop-t : goal.decreases-loop-t
decreases-loop-t l = 64 - l.from
