-- Where games end: the diagram, the length and the position, as text.
use Rattle.std.specs.Prelude.{◌≡◌, ◌≢◌, ℕ, ◌+◌, ◌/◌, ◌⊎◌, List, [], ◌∷◌, ◌++◌, None, length, min, codes}
use Rattle.pg_board.specs.declared.man.Kind.TheVariants.{Pawn}
use Rattle.pg_board.specs.Placement.{get}
use Rattle.pg_position.specs.declared.state.State.{State}
use Rattle.pg_position.specs.declared.moves.Move.{Move}
use Rattle.pg_position.specs.Array.{array_state}
use Rattle.pg_position.specs.Position.{Stands}
use Rattle.pg_position.specs.Step.{Legal}
use Rattle.pg_fen.specs.declared.games.FenGame.{FenGame}
use Rattle.pg_fen.specs.Lengths.{length_text}
use Rattle.pg_fen.specs.PlacementText.{placement_text}
use Rattle.pg_fen.specs.PositionWriting.{position_text}
use Rattle.pg_texts.specs.Items.{AreTexts}
use Rattle.pg_texts.specs.Movetext.{IsMovetext}
use Rattle.pg_texts.specs.Report.{line_text, labelled_text}

-- a move of a pawn, or one that takes what stands on its target (the PGN standard, section 16.1.3.5)
abbrev pub Resets : State → Move → Type 0
Resets p m = Stands p.board p.side Pawn m.from ⊎ (get p.board m.to ≢ None)

-- behind a move at p, before which n plies were neither, k plies were neither
abbrev pub IsStillAfter : State → Move → ℕ → ℕ → Type 0
IsStillAfter p m n k = (Resets p m × (k ≡ 0)) ⊎ ((¬ Resets p m) × (k ≡ n + 1))

-- the moves are a game from p, before which n plies were neither; q is its last position, before which `still` plies
-- were neither
unfoldable pub Plays : State → ℕ → List Move → State → ℕ → Type 0
Plays p n [] q still = (p ≡ q) × (n ≡ still)
Plays p n (m ∷ ms) q still =
    (r : State) × (k : ℕ) × Legal p m r × IsStillAfter p m n k × Plays r k ms q still

-- numbers of a position's text go up to 65,535
abbrev pub number : ℕ → ℕ
number n = min n 65535

-- the position at the end of a game of so many plies, with the plies before it that were no move of a pawn and took
-- nothing, and the number of the move that comes next
abbrev pub last_of : State → ℕ → ℕ → FenGame
last_of q still plies = record { position = q; half = number still; full = number (plies / 2 + 1) }

-- the lines on a game from the initial array: its moves, and the diagram, the length and the position at its end
pub record IsEndText (game : List Move) (text : List ℕ) : Type 0 where
  pub moves : List ℕ
  pub last : State
  pub still : ℕ
  pub is_movetext : IsMovetext game moves
  pub plays : Plays array_state 0 game last still
  pub is : text ≡ line_text moves ++ (labelled_text (codes "diagram ") (placement_text last.board)
      ++ (labelled_text (codes "length ") (length_text (length game))
      ++ labelled_text (codes "fen ") (position_text (last_of last still (length game)))))

-- those on the games of a list, one after another
abbrev pub AreEndTexts : List (List Move) → List ℕ → Type 0
AreEndTexts games text = AreTexts IsEndText games text
