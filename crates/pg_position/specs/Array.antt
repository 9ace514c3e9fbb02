-- The initial array (FIDE 2.3).
use Rattle.std.specs.Prelude.{ℕ, Option, Some, None, List, [], ◌∷◌, true, nat_eq, if◌then◌else◌, get_or, ◌-◌}
use Rattle.pg_board.specs.declared.man.Color.TheVariants.{White, Black}
use Rattle.pg_board.specs.declared.man.Kind.{Kind}
use Rattle.pg_board.specs.declared.man.Kind.TheVariants.{Pawn, Knight, Bishop, Rook, Queen, King}
use Rattle.pg_board.specs.declared.man.Man.{Man}
use Rattle.pg_board.specs.Squares.{file, rank}
use Rattle.pg_board.specs.Men.{man}
use Rattle.pg_board.specs.Placement.{Placement, placement_of}
use Rattle.pg_position.specs.declared.state.State.{State}
use Rattle.pg_position.specs.Position.{parts}

-- the pieces of a colour from file a to file h
abbrev pub back_rank : List Kind
back_rank = Rook ∷ Knight ∷ Bishop ∷ Queen ∷ King ∷ Bishop ∷ Knight ∷ Rook ∷ []

abbrev pub piece_on : ℕ → Kind
piece_on f = get_or back_rank (f - 1) King

-- what stands on a square as a game begins: pieces on ranks 1 and 8, pawns on ranks 2 and 7
unfoldable pub first_man : ℕ → Option Man
first_man s =
    if nat_eq (rank s) 1 then Some (man White (piece_on (file s)))
    else if nat_eq (rank s) 2 then Some (man White Pawn)
    else if nat_eq (rank s) 7 then Some (man Black Pawn)
    else if nat_eq (rank s) 8 then Some (man Black (piece_on (file s)))
    else None

unfoldable pub array_board : Placement
array_board = placement_of first_man

-- White to move, with all four rights, and no passed square
unfoldable pub array_state : State
array_state =
    parts array_board White
    (record { white_king = true; white_queen = true; black_king = true; black_queen = true }) None
