use Rattle.pg_tolls.proofs.Common.{◌≡◌, length, AreRowsOf}
use Rattle.pg_tolls.proofs.rows.rows_of.Given as goal

abbrev pub invariant-loop-at : goal.invariant-loop-at
invariant-loop-at l = record { long : length l.rows ≡ 64; is : AreRowsOf l.table l.marks l.fn.kind l.rows l.at }
