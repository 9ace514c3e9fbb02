use Rattle.pg_travel.proofs.Common.{AreFirstRows}
use Rattle.pg_travel.proofs.rows.fill_table.Given as goal

abbrev pub invariant-loop-place : goal.invariant-loop-place
invariant-loop-place l = AreFirstRows l.goal l.place l.rows
