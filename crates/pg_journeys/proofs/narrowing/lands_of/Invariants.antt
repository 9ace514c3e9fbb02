use Rattle.pg_journeys.proofs.Common.{TakesBy}
use Rattle.pg_journeys.proofs.SiftedSets.{IsJoined}
use Rattle.pg_journeys.proofs.narrowing.lands_of.Given as goal

abbrev pub invariant-loop-e : goal.invariant-loop-e
invariant-loop-e l = IsJoined (TakesBy l.side l.man l.rooms) l.fn.lands l.e l.all
