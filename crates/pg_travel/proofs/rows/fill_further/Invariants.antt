use Rattle.pg_travel.proofs.Common.{AreFirstFurther}
use Rattle.pg_travel.proofs.rows.fill_further.Given as goal

abbrev pub invariant-loop-place : goal.invariant-loop-place
invariant-loop-place l = AreFirstFurther l.goal l.place l.rows
