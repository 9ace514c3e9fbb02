-- What three texts say of a problem: which diagram, which length, which list of games.
use Rattle.std.specs.Prelude.{◌≡◌, ℕ, List, Ok}
use Rattle.pg_board.specs.Placement.{Placement}
use Rattle.pg_position.specs.declared.moves.Move.{Move}
use Rattle.pg_fen.specs.Fields.{fields}
use Rattle.pg_fen.specs.DiagramText.{diagram_of}
use Rattle.pg_fen.specs.Lengths.{length_of}
use Rattle.pg_san.specs.Listing.{IsListing}

-- three texts spell the diagram d, a length of n plies and the list of games
pub record AreSpelled (diagram length games : List ℕ) (d : Placement) (n : ℕ) (list : List (List Move)) : Type 0 where
  pub diagram_is : diagram_of (fields diagram) ≡ Ok d
  pub length_is : length_of length ≡ Ok n
  pub games_are : IsListing games list
