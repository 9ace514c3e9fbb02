use Rattle.pg_pgn.proofs.EndLemmas.{Lasts}
use Rattle.pg_pgn.proofs.ends.end_of.Given as goal

abbrev pub invariant-loop-m : goal.invariant-loop-m
invariant-loop-m l = Lasts l.game l.m-index l.last l.still
