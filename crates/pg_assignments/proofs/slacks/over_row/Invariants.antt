use Rattle.pg_assignments.proofs.Common.{◌≡◌, length, IsOverRow}
use Rattle.pg_assignments.proofs.slacks.over_row.Given as goal

abbrev pub invariant-loop-q : goal.invariant-loop-q
invariant-loop-q l = record { long : length l.over ≡ 16; is : IsOverRow l.before l.costs l.price l.columns l.over l.q }
