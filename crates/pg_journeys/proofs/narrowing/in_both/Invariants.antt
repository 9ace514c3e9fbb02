use Rattle.pg_journeys.proofs.NarrowedSteps.{HaveAt}
use Rattle.pg_journeys.proofs.SiftedSets.{IsJoined}
use Rattle.pg_journeys.proofs.narrowing.in_both.Given as goal

abbrev pub invariant-loop-k : goal.invariant-loop-k
invariant-loop-k l = IsJoined (HaveAt l.one l.other) l.initial.all l.k l.all
