use Rattle.pg_assignments.proofs.Common.{AreWays}
use Rattle.pg_assignments.proofs.ways.find_ways.Given as goal

abbrev pub invariant-loop-m : goal.invariant-loop-m
invariant-loop-m l = AreWays l.slacks l.owner l.size l.m l.keys
