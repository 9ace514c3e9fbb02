-- What is shown on a course, and the facts that follow.
use Rattle.std.specs.Prelude.{Option, MatchOption}
use Rattle.pg_board.specs.declared.man.Color.{Color}
use Rattle.pg_journeys.specs.Known.{known}
use Rattle.pg_journeys.specs.inner.Showing.{IsDead, Shows}
use Rattle.pg_journeys.specs.inner.Walking.{IsNext}
use Rattle.pg_journeys.specs.declared.course.Course.{Course}
use Rattle.pg_journeys.specs.declared.facts.Facts.{Facts as FactSets}
use Rattle.pg_journeys.specs.declared.shown.Shown.{Shown}

-- c has no way alive on a course under facts
abbrev pub IsDeadOn : Course → FactSets → Color → Type 0
IsDeadOn x f c = IsDead (known f) x.diagram.now x.position.now x.left c

-- what the plans of c show there: none where it has no way alive
abbrev pub IsShownOn : Course → FactSets → Color → Option Shown → Type 0
IsShownOn x f c o = MatchOption o (IsDeadOn x f c) (λ a. Shows (known f) x.diagram.now x.position.now x.left c a)

-- the facts that follow: none where a colour has no way alive
abbrev pub IsNextOn : Course → FactSets → Option FactSets → Type 0
IsNextOn x f o = MatchOption o ((c : Color) × IsDeadOn x f c) (λ e. IsNext (known f) (known e) x.diagram.now x.position.now x.left)
