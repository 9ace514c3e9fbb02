use Rattle.pg_pawns.proofs.Common.{◌≡◌, ℕ, ◌-◌, ◌<◌, ◌≤◌, Pawn, Stands, any_pawn, number_among, price, SourceFits}
use Rattle.pg_pawns.proofs.prices.all_fit.Given as goal

abbrev pub invariant-loop-s : goal.invariant-loop-s
invariant-loop-s l = record { is : l.place ≡ number_among l.color any_pawn l.board l.from; seen : (s : ℕ) → s < l.from → Stands l.board l.color Pawn s → SourceFits l.goal l.color s (price l.u l.color any_pawn l.board s) l.v; within : l.from ≤ 64 }

abbrev pub decreases-loop-s : goal.decreases-loop-s
decreases-loop-s l = 64 - l.from
