use Rattle.pg_journeys.proofs.Common.{ℕ, Kind, known, AreDueMet, IsAheadAmid, AreTakenAmid}
use Rattle.pg_journeys.proofs.SearchLemmas.{unseen}
use Rattle.pg_journeys.proofs.rings.look_ahead.Given as goal

abbrev pub invariant-loop-men : goal.invariant-loop-men
invariant-loop-men l = record {
  ready : AreDueMet l.front;
  amid : (k : Kind) (s n : ℕ) → IsAheadAmid (known l.ground.facts) l.ground.color l.is_quiet k s n l.fn.front →
      AreTakenAmid (known l.ground.facts) l.ground.color l.is_quiet k s n l.fn.front l.fn.taken →
      IsAheadAmid (known l.ground.facts) l.ground.color l.is_quiet k s n l.front × AreTakenAmid (known l.ground.facts) l.ground.color l.is_quiet k s n l.front l.taken;
}

abbrev pub decreases-loop-men : goal.decreases-loop-men
decreases-loop-men l = unseen l.front
