-- The men that cannot be pinned, and to which squares they may go for their king's sake; and the moves counted off the men
-- that are still to be counted.
use Rattle.std.specs.Prelude.{◌≡◌, ◌≢◌, ℕ, ◌+◌, ◌<◌, ◌≤◌, Bool, not, true, false}
use Rattle.pg_board.specs.declared.man.Kind.{Kind}
use Rattle.pg_board.specs.declared.man.Kind.TheVariants.{King}
use Rattle.pg_board.specs.Bits.{has}
use Rattle.pg_board.specs.Tally.{total}
use Rattle.pg_position.specs.declared.state.State.{State}
use Rattle.pg_position.specs.Position.{Stands}
use Rattle.pg_moves.specs.Targets.{IsOwn}
use Rattle.pg_moves.specs.inner.Parries.{IsInVain, IsInShelter}
use Rattle.pg_moves.specs.inner.Places.{most_of_a_man, place_of, Adds}

-- the man on r is no king, and leaves his king unattacked just where he goes to one of the squares, en passant apart
pub record IsGuardedMan (p : State) (k : Kind) (goals : ℕ) (r : ℕ) : Type 0 where
  pub stands : Stands p.board p.side k r
  pub no_king : k ≢ King
  pub vain : (s : ℕ) → s < 64 → has goals s ≡ false → IsInVain p r s
  pub safe : (s : ℕ) → s < 64 → has goals s ≡ true → IsInShelter p r s

-- so does each man of the side to move that stands off the first set, with the second
unfoldable pub GuardsOff : State → ℕ → ℕ → Type 0
GuardsOff p pinned goals = (k : Kind) (r : ℕ) → r < 64 → Stands p.board p.side k r → has pinned r ≡ false → IsGuardedMan p k goals r

-- no square of the second set is in the first
abbrev pub AreOff : ℕ → ℕ → Type 0
AreOff pinned left = (q : ℕ) → q < 64 → has left q ≡ true → has pinned q ≡ false

-- there are n legal moves from the squares with t, which are told square by square, each few
pub record CountsOn (p : State) (t : ℕ → Bool) (n : ℕ) : Type 0 where
  pub each : ℕ → ℕ
  pub adds : (q : ℕ) → q < 64 → t q ≡ true → Adds p (place_of q 0 0) (place_of (q + 1) 0 0) (each q)
  pub none : (q : ℕ) → q < 64 → t q ≡ false → each q ≡ 0
  pub few : (q : ℕ) → q < 64 → each q ≤ most_of_a_man
  pub sum : n ≡ total each 64

-- men of the side to move stand on the set, and there are n legal moves from all other squares
pub record CountsOff (p : State) (left : ℕ) (n : ℕ) : Type 0 where
  pub own : (q : ℕ) → q < 64 → has left q ≡ true → IsOwn p.board p.side q
  pub counts : CountsOn p (λ q. not (has left q)) n

-- so it is of men none of whom may be pinned, and each of them may go just to the goals for his king's sake
pub record IsCounted (p : State) (pinned goals left n : ℕ) : Type 0 where
  pub guards : GuardsOff p pinned goals
  pub off : AreOff pinned left
  pub counts : CountsOff p left n
