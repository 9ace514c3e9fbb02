use Rattle.pg_tolls.proofs.Common.{◌≡◌, true, has, count_below, IsOffer}
use Rattle.pg_tolls.proofs.FillingLemmas.{IsLowering}
use Rattle.pg_tolls.proofs.filling.offer.Given as goal

abbrev pub invariant-loop-square : goal.invariant-loop-square
invariant-loop-square l = IsLowering (λ s. has l.fn.squares s ≡ true) (λ b. IsOffer b l.fn.squares l.offered) l.left l.initial.rows l.rows

abbrev pub decreases-loop-square : goal.decreases-loop-square
decreases-loop-square l = count_below (has l.left) 64
