use Rattle.pg_tolls.proofs.Common.{◌≡◌, ◌<◌, ◌≤◌, ◌+◌, ◌*◌, ℕ, true, false, has, other, count_below, known, stated, raised, cell}
use Rattle.pg_tolls.proofs.closed.falls_fit.Given as goal

abbrev pub invariant-loop-square : goal.invariant-loop-square
invariant-loop-square l =
    (s : ℕ) → s < 64 → (known l.ground.facts).lands (other l.ground.color) s ≡ true → has l.left s ≡ false →
    cell l.rows s 15 + raised (stated l.tariff) (other l.ground.color) s ≤ 128 * l.marks + 255

abbrev pub decreases-loop-square : goal.decreases-loop-square
decreases-loop-square l = count_below (has l.left) 64
