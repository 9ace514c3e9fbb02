-- Pawns that are counted all at once, by sets of the squares that they go from.
use Rattle.std.specs.Prelude.{◌≡◌, ◌≢◌, ℕ, ◌+◌, ◌-◌, ◌<◌, ◌≤◌, true}
use Rattle.pg_board.specs.declared.man.Color.{Color}
use Rattle.pg_board.specs.declared.man.Color.TheVariants.{White, Black}
use Rattle.pg_board.specs.declared.man.Kind.TheVariants.{Pawn}
use Rattle.pg_board.specs.Bits.{has}
use Rattle.pg_board.specs.Placement.{Placement}
use Rattle.pg_board.specs.Squares.{file, rank}
use Rattle.pg_board.specs.Tally.{one}
use Rattle.pg_position.specs.declared.state.State.{State}
use Rattle.pg_position.specs.Position.{IsVacant}
use Rattle.pg_board.specs.SquareSets.{IsSetOf}
use Rattle.pg_position.specs.Step.{IsEnemy}
use Rattle.pg_position.specs.Squares.{home_rank}
use Rattle.pg_moves.specs.Targets.{IsOrdinary}
use Rattle.pg_moves.specs.inner.Guards.{IsGuardedMan}
use Rattle.pg_moves.specs.declared.pawns.PawnMoves.{PawnMoves}

-- how far the index of a square grows from one rank to the next, and over two
abbrev pub one_rank : ℕ
one_rank = 8

abbrev pub two_ranks : ℕ
two_ranks = 16

-- the square whose index is n more for White, and n less for Black
abbrev pub forward : Color → ℕ → ℕ → ℕ
forward White n q = q + n
forward Black n q = q - n

-- that square is on the board
abbrev pub IsInside : Color → ℕ → ℕ → Type 0
IsInside White n q = q + n < 64
IsInside Black n q = n ≤ q

-- how far a pawn's capture goes towards the a-file, and towards the h-file
abbrev pub to_west : Color → ℕ
to_west White = 7
to_west Black = 9

abbrev pub to_east : Color → ℕ
to_east White = 9
to_east Black = 7

-- a pawn of the side to move that may go just to the goals for his king's sake, neither promotes nor captures en passant, and
-- has two ranks in front
pub record IsQuiet (p : State) (goals : ℕ) (q : ℕ) : Type 0 where
  pub guarded : IsGuardedMan p Pawn goals q
  pub ordinary : IsOrdinary p Pawn q
  pub inside : IsInside p.side two_ranks q

-- each square of the set has two ranks in front
abbrev pub AreInside : Color → ℕ → Type 0
AreInside c pawns = (q : ℕ) → q < 64 → has pawns q ≡ true → IsInside c two_ranks q

-- from which squares of the set a pawn goes one square forward, goes two, captures towards the a-file, captures towards the h-file,
-- each time to a goal
pub record AreWays (b : Placement) (c : Color) (pawns : ℕ) (goals : ℕ) (w : PawnMoves) : Type 0 where
  pub once : IsSetOf w.once (λ q. (has pawns q ≡ true) × IsVacant b (forward c one_rank q) × (has goals (forward c one_rank q) ≡ true))
  pub twice : IsSetOf w.twice (λ q. (has pawns q ≡ true) × IsVacant b (forward c one_rank q) × (rank q ≡ home_rank c) × IsVacant b (forward c two_ranks q) × (has goals (forward c two_ranks q) ≡ true))
  pub west : IsSetOf w.west (λ q. (has pawns q ≡ true) × (file q ≢ 1) × IsEnemy b c (forward c (to_west c) q) × (has goals (forward c (to_west c) q) ≡ true))
  pub east : IsSetOf w.east (λ q. (has pawns q ≡ true) × (file q ≢ 8) × IsEnemy b c (forward c (to_east c) q) × (has goals (forward c (to_east c) q) ≡ true))

-- how many of the moves go from q
unfoldable pub moves_from : PawnMoves → ℕ → ℕ
moves_from w q = (one (has w.once q) + one (has w.twice q)) + (one (has w.west q) + one (has w.east q))
