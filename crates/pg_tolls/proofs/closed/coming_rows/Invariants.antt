use Rattle.pg_tolls.proofs.Common.{◌≡◌, length, AreComing}
use Rattle.pg_tolls.proofs.closed.coming_rows.Given as goal

abbrev pub invariant-loop-at : goal.invariant-loop-at
invariant-loop-at l = record { long : length l.coming ≡ 64; is : AreComing l.plain l.marked l.coming l.at }
