use Rattle.pg_assignments.proofs.Common.{◌≡◌, length, AreKeys}
use Rattle.pg_assignments.proofs.ways.steps_from.Given as goal

abbrev pub invariant-loop-t : goal.invariant-loop-t
invariant-loop-t l = record { long : length l.steps ≡ 16; is : AreKeys l.slack l.steps l.t }
