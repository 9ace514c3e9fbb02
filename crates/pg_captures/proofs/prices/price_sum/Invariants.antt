use Rattle.pg_captures.proofs.Common.{◌≡◌, ◌*◌, ◌≤◌, take, sum}
use Rattle.pg_captures.proofs.prices.price_sum.Given as goal

abbrev pub invariant-loop-i : goal.invariant-loop-i
invariant-loop-i l = record { is : l.sum ≡ sum (take l.i l.prices); few : l.sum ≤ 255 * l.i }
