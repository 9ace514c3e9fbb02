use Rattle.pg_journeys.proofs.Common.{ℕ, List, known, AreDueMet, IsBackAmid}
use Rattle.pg_journeys.proofs.SearchLemmas.{unseen}
use Rattle.pg_journeys.proofs.rings.look_back.Given as goal

abbrev pub invariant-loop-men : goal.invariant-loop-men
invariant-loop-men l = record {
  ready : AreDueMet l.front;
  amid : (goals : List ℕ) (n : ℕ) → IsBackAmid (known l.ground.facts) l.ground.color l.is_quiet goals n l.fn.front →
      IsBackAmid (known l.ground.facts) l.ground.color l.is_quiet goals n l.front;
}

abbrev pub decreases-loop-men : goal.decreases-loop-men
decreases-loop-men l = unseen l.front
