use Rattle.pg_journeys.proofs.KnownLemmas.{AreSameTo}
use Rattle.pg_journeys.proofs.known.same_men.Given as goal

abbrev pub invariant-loop-i : goal.invariant-loop-i
invariant-loop-i l = AreSameTo l.one l.other l.i
