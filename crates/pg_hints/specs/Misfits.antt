-- A game of a list, by where it stands, how long it is and where it ends.
use Rattle.std.specs.Prelude.{◌≡◌, ℕ, List, length, Some}
use Rattle.std.specs.List.{slice_get}
use Rattle.pg_position.specs.declared.state.State.{State}
use Rattle.pg_position.specs.declared.moves.Move.{Move}
use Rattle.pg_position.specs.Array.{array_state}
use Rattle.pg_position.specs.Game.{IsGame}
use Rattle.pg_san.specs.Listing.{IsListing}
use Rattle.pg_hints.specs.Places.{IsFirstAt}
use Rattle.pg_hints.specs.declared.misfits.Misfit.{Misfit}

-- the game of a text with this index, counted from 0 in canonical order: its line, its plies, and where it ends
pub record IsMisfit (text : List ℕ) (at : ℕ) (found : Misfit) : Type 0 where
  pub games : List (List Move)
  pub game : List Move
  pub last : State
  pub listing : IsListing text games
  pub indexed : slice_get games at ≡ Some game
  pub line : IsFirstAt text found.line game
  pub plies : found.plies ≡ length game
  pub plays : IsGame array_state game last
  pub end : found.end ≡ last.board
