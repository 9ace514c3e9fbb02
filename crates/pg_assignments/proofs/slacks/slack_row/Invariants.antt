use Rattle.pg_assignments.proofs.Common.{◌≡◌, length, IsSlackRow}
use Rattle.pg_assignments.proofs.slacks.slack_row.Given as goal

abbrev pub invariant-loop-q : goal.invariant-loop-q
invariant-loop-q l = record { long : length l.slack ≡ 16; is : IsSlackRow l.costs l.price l.columns l.slack l.q }
