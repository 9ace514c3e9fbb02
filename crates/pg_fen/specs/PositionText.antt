-- Positions as text: six fields, of which all count.
--     game_parts fields    what the fields of a text say: a placement and details, or the first fault of the text
--     IsGameRead g result  what reading answers where the text says g: its position, or the first clause that g breaks
use Rattle.std.specs.Prelude.{◌≡◌, ℕ, List, [], ◌∷◌, Result, Ok, Err, MatchResult}
use Rattle.pg_board.specs.Placement.{Placement}
use Rattle.pg_position.specs.declared.state.State.{State}
use Rattle.pg_position.specs.declared.refusals.BadPosition.{BadPosition}
use Rattle.pg_position.specs.Position.{parts, IsPosition, IsFirstBroken}
use Rattle.pg_fen.specs.declared.fault.FenFault.{FenFault}
use Rattle.pg_fen.specs.declared.fault.FenFault.TheVariants.{Fields, Invalid}
use Rattle.pg_fen.specs.declared.details.Details.{Details}
use Rattle.pg_fen.specs.declared.games.GameParts.{GameParts}
use Rattle.pg_fen.specs.declared.games.FenGame.{FenGame}
use Rattle.pg_fen.specs.DetailText.{details_of}
use Rattle.pg_fen.specs.PlacementText.{read_placement}

-- a placement and details together, or the first fault
abbrev pub both_read : Result Placement FenFault → Result Details FenFault → Result GameParts FenFault
both_read (Err fault) details = Err fault
both_read (Ok b) (Err fault) = Err fault
both_read (Ok b) (Ok d) = Ok (record { board = b; details = d })

-- what the fields of a text say, or the first fault of the text
unfoldable pub game_parts : List (List ℕ) → Result GameParts FenFault
game_parts (placement ∷ side ∷ rights ∷ passed ∷ half ∷ full ∷ []) =
    both_read (read_placement placement) (details_of side rights passed half full)
game_parts _ = Err Fields

-- the state and the game that a placement and details make
abbrev pub state_of : GameParts → State
state_of g = parts g.board g.details.side g.details.rights g.details.passed

abbrev pub game_of : GameParts → FenGame
game_of g = record { position = state_of g; half = g.details.half; full = g.details.full }

-- the game where its state is a position, else the first clause that it breaks
abbrev pub IsGameOrBroken : GameParts → Result FenGame FenFault → Type 0
IsGameOrBroken g result =
    MatchResult result (λ game. (game ≡ game_of g) × IsPosition (state_of g))
    (λ e. (bad : BadPosition) × (e ≡ Invalid bad) × IsFirstBroken (state_of g) bad)

-- what reading answers: the first fault of the text, else as above
abbrev pub IsGameRead : Result GameParts FenFault → Result FenGame FenFault → Type 0
IsGameRead (Err fault) result = result ≡ Err fault
IsGameRead (Ok g) result = IsGameOrBroken g result
