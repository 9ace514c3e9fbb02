use Rattle.pg_journeys.proofs.Common.{◌≡◌, length}
use Rattle.pg_journeys.proofs.EndLemmas.{AreLikeAimsTo}
use Rattle.pg_journeys.proofs.plans.fill_ends.Given as goal

abbrev pub invariant-loop-e : goal.invariant-loop-e
invariant-loop-e l = record { long : length l.aims ≡ 17; is : AreLikeAimsTo l.ground l.goals l.is_quiet l.aims l.e }
