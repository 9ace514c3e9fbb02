use Rattle.pg_checker.proofs.GameSteps.{Comes}
use Rattle.pg_checker.proofs.listed.end_of.Given as goal

abbrev pub invariant-loop-m : goal.invariant-loop-m
invariant-loop-m l = Comes l.game l.m-index l.position
