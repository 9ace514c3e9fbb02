use Rattle.pg_journeys.proofs.Common.{TakesAt}
use Rattle.pg_journeys.proofs.SiftedSets.{IsJoined}
use Rattle.pg_journeys.proofs.narrowing.lands_to.Given as goal

abbrev pub invariant-loop-i : goal.invariant-loop-i
invariant-loop-i l = IsJoined (TakesAt l.side l.man l.e l.room) l.initial.all l.i l.all
