use Rattle.pg_journeys.proofs.FrontLemmas.{AreAdvancedBelow}
use Rattle.pg_journeys.proofs.fronts.Front.advance.Given as goal

abbrev pub invariant-loop-k : goal.invariant-loop-k
invariant-loop-k l = AreAdvancedBelow l.k l.any l.fn.self l.self
