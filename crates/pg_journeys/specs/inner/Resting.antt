-- Men who rest: on still squares, the same here and in the diagram, whom no capture takes. Without them plans are the same.
use Rattle.std.specs.Prelude.{◌≡◌, ℕ, ◌<◌, true, false, not, ◌&&◌, cond, None}
use Rattle.pg_board.specs.Bits.{has}
use Rattle.pg_board.specs.declared.man.Color.{Color}
use Rattle.pg_board.specs.Placement.{Placement, get, placement_of}
use Rattle.pg_position.specs.declared.state.State.{State}
use Rattle.pg_journeys.specs.Facts.{Facts}
use Rattle.pg_journeys.specs.Journeys.{HasPassed}
use Rattle.pg_journeys.specs.declared.shown.Shown.{Shown}

-- a placement without the men on a set of squares
abbrev pub lifted : Placement → ℕ → Placement
lifted b z = placement_of (λ q. cond (has z q) None (get b q))

-- a position without them: no longer a position of the game, but with the same side, rights and passed square
abbrev pub lifted_from : State → ℕ → State
lifted_from p z = record { board = lifted p.board z; side = p.side; rights = p.rights; passed = p.passed }

-- the men of p on the set rest under f: their squares are still, d has the same men there, no capture lands there, and none of
-- them has just passed a square
pub record AreResting (f : Facts) (d : Placement) (p : State) (z : ℕ) : Type 0 where
  pub still : (s : ℕ) → s < 64 → has z s ≡ true → f.still s ≡ true
  pub same : (s : ℕ) → s < 64 → has z s ≡ true → get d s ≡ get p.board s
  pub spared : (c : Color) (s : ℕ) → s < 64 → has z s ≡ true → f.lands c s ≡ false
  pub waited : (c : Color) (s u : ℕ) → s < 64 → has z s ≡ true → ¬ HasPassed p c s u

-- the set n has what the set a has and the set b has not
abbrev pub IsLess : ℕ → ℕ → ℕ → Type 0
IsLess n a b = (q : ℕ) → q < 64 → has n q ≡ (has a q && not (has b q))

-- a is shown without the men on the set, and b with them: none of them changes, and all else is the same
pub record IsWithRest (z : ℕ) (a b : Shown) : Type 0 where
  pub changed : IsLess b.changed a.changed z
  pub lands : b.lands ≡ a.lands
  pub quiet_lands : b.quiet_lands ≡ a.quiet_lands
  pub falls : b.falls ≡ a.falls
  pub quiet_falls : b.quiet_falls ≡ a.quiet_falls
