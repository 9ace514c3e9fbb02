use Rattle.pg_travel.proofs.LeastRows.{FirstUnreached}
use Rattle.pg_travel.proofs.rows.unreached.Given as goal

abbrev pub invariant-loop-i : goal.invariant-loop-i
invariant-loop-i l = FirstUnreached l.count l.i l.row
