use Rattle.pg_assignments.proofs.WayLemmas.{IsGoing}
use Rattle.pg_assignments.proofs.ways.go_from.Given as goal

abbrev pub invariant-loop-q : goal.invariant-loop-q
invariant-loop-q l = IsGoing l.first l.m l.middle l.initial.keys l.keys l.q
