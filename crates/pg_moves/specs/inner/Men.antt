-- The men of the side to move that come next, and where they may go, for the cursor of legal moves.
use Rattle.std.specs.Prelude.{◌≡◌, ◌⊎◌, ℕ, ◌+◌, ◌<◌, ◌≤◌, ◌&&◌, not, true, false}
use Rattle.pg_board.specs.Bits.{has}
use Rattle.pg_board.specs.Men.{is_of}
use Rattle.pg_board.specs.Placement.{get}
use Rattle.pg_position.specs.declared.state.State.{State}
use Rattle.pg_moves.specs.Targets.{IsOwn}
use Rattle.pg_moves.specs.inner.Guards.{GuardsOff}
use Rattle.pg_moves.specs.inner.Pawns.{IsQuiet}
use Rattle.pg_moves.specs.inner.Places.{place_of, NoneFrom}
use Rattle.pg_moves.specs.declared.men.Men.{Men}

-- each man off those that may be pinned may go just to the goals for his king's sake; what is allowed are the goals
-- without the men of the side to move; and of the quiet pawns each may go just to the goals too
pub record AreMen (p : State) (men : Men) : Type 0 where
  pub goals : ℕ
  pub guards : GuardsOff p men.pinned goals
  pub allowed : (q : ℕ) → q < 64 → has men.allowed q ≡ has goals q && not (is_of p.side (get p.board q))
  pub quiet : (q : ℕ) → q < 64 → has men.quiet q ≡ true → IsQuiet p goals q

-- what is kept of the men, once they were looked at: then the king at least may be pinned
unfoldable pub AreKept : State → Men → Type 0
AreKept p men = (men.pinned ≡ 0) ⊎ AreMen p men

-- men of the side to move stand on the set, all from the square `low` on, and no other man from there on has a legal move
pub record AreToCome (p : State) (low : ℕ) (set : ℕ) : Type 0 where
  pub own : (q : ℕ) → q < 64 → has set q ≡ true → IsOwn p.board p.side q
  pub reached : (q : ℕ) → q < 64 → has set q ≡ true → low ≤ q
  pub none : (q : ℕ) → q < 64 → low ≤ q → has set q ≡ false → NoneFrom p (place_of q 0 0) (place_of (q + 1) 0 0)
