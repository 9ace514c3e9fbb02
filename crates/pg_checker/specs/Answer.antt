-- What is asked of a list of games: it is the exact answer to a diagram and a length.
use Rattle.std.specs.Prelude.{◌≡◌, ◌↔◌, ℕ, ◌<◌, List, length}
use Rattle.std.specs.List.{Contains}
use Rattle.pg_board.specs.Placement.{Placement}
use Rattle.pg_position.specs.declared.state.State.{State}
use Rattle.pg_position.specs.declared.moves.Move.{Move}
use Rattle.pg_position.specs.Array.{array_state}
use Rattle.pg_position.specs.Game.{IsGame, IsOnce}

-- a game of n plies from the initial array, whose last placement is the diagram d
abbrev pub IsSolution : Placement → ℕ → List Move → Type 0
IsSolution d n ms = (length ms ≡ n) × ((r : State) × IsGame array_state ms r × (r.board ≡ d))

-- the list has each solution once and nothing else, and no game of fewer plies ends on the diagram
pub record IsExactAnswer (d : Placement) (n : ℕ) (games : List (List Move)) : Type 0 where
  pub once : IsOnce games
  pub has : (ms : List Move) → Contains games ms ↔ IsSolution d n ms
  pub none_shorter : (m : ℕ) (ms : List Move) → m < n → ¬ IsSolution d m ms

-- each game of the list is a solution, and the list has it once
pub record AreSolutions (d : Placement) (n : ℕ) (games : List (List Move)) : Type 0 where
  pub once : IsOnce games
  pub are : (ms : List Move) → Contains games ms → IsSolution d n ms
