-- What is remembered of what colours showed, and where it is used again.
use Rattle.std.specs.Prelude.{◌≡◌, ℕ, ◌<◌, ◌↔◌, true, Option, MatchOption}
use Rattle.pg_board.specs.Men.{other}
use Rattle.pg_board.specs.Placement.{Placement}
use Rattle.pg_board.specs.declared.man.Color.{Color}
use Rattle.pg_board.specs.declared.man.Kind.{Kind}
use Rattle.pg_position.specs.declared.rights.Wing.{Wing}
use Rattle.pg_position.specs.declared.state.State.{State}
use Rattle.pg_position.specs.Position.{Stands, holds}
use Rattle.pg_captures.specs.Owed.{plies_left, victims}
use Rattle.pg_journeys.specs.Facts.{Facts}
use Rattle.pg_journeys.specs.Journeys.{HasPassed}
use Rattle.pg_journeys.specs.Known.{known}
use Rattle.pg_journeys.specs.inner.Showing.{IsDead, Shows}
use Rattle.pg_journeys.specs.declared.memory.Case.{Case}
use Rattle.pg_journeys.specs.declared.memory.Remembered.{Remembered}
use Rattle.pg_journeys.specs.declared.shown.Shown.{Shown}

-- p with k plies left and q with n are the same for c under facts: c has the same men and rights in both, the same pawn that has
-- just passed a square where it may be captured, as many plies, and as many men to capture
pub record AreSameFor (f : Facts) (c : Color) (p q : State) (k n : ℕ) : Type 0 where
  pub men : (j : Kind) (s : ℕ) → s < 64 → Stands p.board c j s ↔ Stands q.board c j s
  pub rights : (w : Wing) → holds p.rights c w ≡ holds q.rights c w
  pub passed : (s u : ℕ) → f.lands (other c) u ≡ true → HasPassed p c s u ↔ HasPassed q c s u
  pub plies : plies_left p.side c k ≡ plies_left q.side c n
  pub victims : victims c p.board ≡ victims c q.board

-- two cases are of one colour under the same facts, for which their positions and plies are the same
pub record AreAlike (a b : Case) : Type 0 where
  pub color : a.color ≡ b.color
  pub facts : a.facts ≡ b.facts
  pub same : AreSameFor (known a.facts) a.color a.position b.position a.left b.left

-- what the plans of the colour show on the way to d: none where it has no way alive
abbrev pub IsAnswer : Placement → Case → Option Shown → Type 0
IsAnswer d a o =
    MatchOption o (IsDead (known a.facts) d a.position a.left a.color) (λ x. Shows (known a.facts) d a.position a.left a.color x)

-- what is told of a case is what its plans show on the way to d
abbrev pub IsRemembered : Placement → Remembered → Type 0
IsRemembered d r = r.is_told ≡ true → IsAnswer d r.case r.shown
