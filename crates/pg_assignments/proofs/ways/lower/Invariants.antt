use Rattle.pg_assignments.proofs.WayLemmas.{IsLowered}
use Rattle.pg_assignments.proofs.ways.lower.Given as goal

abbrev pub invariant-loop-t : goal.invariant-loop-t
invariant-loop-t l = IsLowered l.initial.keys l.middle l.rest l.keys l.t
