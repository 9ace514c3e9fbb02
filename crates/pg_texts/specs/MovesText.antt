-- The legal moves of a position as a text, one a line, and why they are not written.
use Rattle.std.specs.Prelude.{◌≡◌, ℕ, Bool, true, List, [], ◌∷◌, ◌++◌, Ok, Err}
use Prim.Native.Char.{code}
use Rattle.pg_position.specs.declared.state.State.{State}
use Rattle.pg_position.specs.declared.moves.Move.{Move}
use Rattle.pg_position.specs.Position.{IsPosition}
use Rattle.pg_position.specs.Step.{IsLegal}
use Rattle.pg_moves.specs.Moves.{IsMoveList}
use Rattle.pg_fen.specs.declared.fault.FenFault.{FenFault}
use Rattle.pg_fen.specs.declared.games.GameParts.{GameParts}
use Rattle.pg_fen.specs.Fields.{fields}
use Rattle.pg_fen.specs.PositionText.{game_parts, state_of, IsGameRead}
use Rattle.pg_san.specs.Writing.{IsSan}
use Rattle.pg_texts.specs.declared.fault.MovesFault.{MovesFault}
use Rattle.pg_texts.specs.declared.fault.MovesFault.TheVariants.{Position, Memory, Write}

-- for each of these moves of p, in their order, the text of the move and a line feed
unfoldable pub AreMoveLines : State → List Move → List ℕ → Type 0
AreMoveLines p [] text = text ≡ []
AreMoveLines p (m ∷ ms) text =
    (line : List ℕ) × (rest : List ℕ) × IsSan p m line × AreMoveLines p ms rest × (text ≡ line ++ code "\n" ∷ rest)

-- the legal moves of p, each once and in canonical order, one a line
abbrev pub IsMovesText : State → List ℕ → Type 0
IsMovesText p text = (ms : List Move) × IsMoveList p ms × AreMoveLines p ms text

-- the six fields of the text spell the position p
unfoldable pub SpellsPosition : List ℕ → State → Type 0
SpellsPosition text p = (g : GameParts) × (game_parts (fields text) ≡ Ok g) × (p ≡ state_of g) × IsPosition p

-- reading the text as a position is refused, and for this cause
unfoldable pub IsRefusedAs : List ℕ → FenFault → Type 0
IsRefusedAs text fault = IsGameRead (game_parts (fields text)) (Err fault)

-- why the moves are not written: the text is refused; else want of
-- memory, where there is a legal move; else the sink has failed
abbrev pub IsMovesFault : List ℕ → Bool → MovesFault → Type 0
IsMovesFault text failed (Position fault) = IsRefusedAs text fault
IsMovesFault text failed Memory = (p : State) × SpellsPosition text p × ((m : Move) × IsLegal p m)
IsMovesFault text failed Write = ((p : State) × SpellsPosition text p) × (failed ≡ true)
