use Rattle.pg_fen.proofs.Common.{◌≡◌, ◌+◌, drop, sum_by, width_of}
use Rattle.pg_fen.proofs.placement.is_eight_wide.Given as goal

abbrev pub invariant-loop-byte : goal.invariant-loop-byte
invariant-loop-byte l = sum_by width_of l.rank + l.left ≡ 8 + sum_by width_of (drop l.byte-index l.rank)
