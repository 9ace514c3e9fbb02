use Rattle.pg_tolls.proofs.Common.{◌≡◌, ◌<◌, ◌≤◌, ◌+◌, ℕ, true, has, other, count_below, known, stated, raised}
use Rattle.pg_tolls.proofs.FillingLemmas.{IsLowering}
use Rattle.pg_tolls.proofs.filling.add_falls.Given as goal

abbrev pub invariant-loop-square : goal.invariant-loop-square
invariant-loop-square l =
    IsLowering (λ s. (known l.ground.facts).lands (other l.ground.color) s ≡ true)
    (λ b. (s : ℕ) → s < 64 → (known l.ground.facts).lands (other l.ground.color) s ≡ true → b s 15 + raised (stated l.tariff) (other l.ground.color) s ≤ 255)
    l.left l.initial.rows l.rows

abbrev pub decreases-loop-square : goal.decreases-loop-square
decreases-loop-square l = count_below (has l.left) 64
