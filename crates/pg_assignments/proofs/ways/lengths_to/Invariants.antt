use Rattle.pg_assignments.proofs.Common.{◌≡◌, length, AreSixteenths}
use Rattle.pg_assignments.proofs.ways.lengths_to.Given as goal

abbrev pub invariant-loop-q : goal.invariant-loop-q
invariant-loop-q l = record { long : length l.lengths ≡ 16; is : AreSixteenths l.keys l.column l.lengths l.q }
