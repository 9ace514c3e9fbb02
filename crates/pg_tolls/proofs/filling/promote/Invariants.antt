use Rattle.pg_tolls.proofs.Common.{◌≡◌, ◌<◌, ◌≤◌, ℕ, has, rank, count_below, last_rank, AreBelow}
use Rattle.pg_tolls.proofs.FillingLemmas.{IsLowering}
use Rattle.pg_tolls.proofs.filling.promote.Given as goal

abbrev pub invariant-loop-square : goal.invariant-loop-square
invariant-loop-square l =
    IsLowering (λ q. rank q ≡ last_rank l.fn.color)
    (λ b. (a : ℕ → ℕ → ℕ) × ((q e : ℕ) → q < 64 → e < 16 → rank q ≡ last_rank l.fn.color → b q e ≤ a q e) × AreBelow a l.piece)
    l.left l.initial.pawns l.pawns

abbrev pub decreases-loop-square : goal.decreases-loop-square
decreases-loop-square l = count_below (has l.left) 64
