-- How many games of k plies go on from a position.
use Rattle.std.specs.Prelude.{◌≡◌, ◌↔◌, ℕ, ◌^◌, ◌<◌, ◌≤◌, List, length}
use Rattle.std.specs.List.{Contains}
use Rattle.pg_position.specs.declared.state.State.{State}
use Rattle.pg_position.specs.declared.moves.Move.{Move}
use Rattle.pg_position.specs.Step.{Legal}
use Rattle.pg_position.specs.Game.{IsGame, IsOnce}
use Rattle.pg_moves.specs.declared.fault.CountFault.{CountFault}
use Rattle.pg_moves.specs.declared.fault.CountFault.TheVariants.{TooDeep, Overflow, Memory}

-- the moves are a game of k plies from p
abbrev pub IsGameOf : State → ℕ → List Move → Type 0
IsGameOf p k ms = (length ms ≡ k) × ((r : State) × IsGame p ms r)

-- all games of k plies from p, each once
pub record IsGameList (p : State) (k : ℕ) (games : List (List Move)) : Type 0 where
  pub once : IsOnce games
  pub has : (ms : List Move) → Contains games ms ↔ IsGameOf p k ms

-- there are n games of k plies from p
unfoldable pub IsGameCount : State → ℕ → ℕ → Type 0
IsGameCount p k n = (games : List (List Move)) × IsGameList p k games × (length games ≡ n)

-- the move leads to the position `after`, from which there are n games of k plies
pub record IsFollowed (p : State) (k : ℕ) (m : Move) (after : State) (n : ℕ) : Type 0 where
  pub legal : Legal p m after
  pub games : IsGameCount after k n

-- why games are not counted: more than 8 plies, more games than 64 bits hold, or, where two plies or more are asked
-- for, no memory
abbrev pub IsCountFault : State → ℕ → CountFault → Type 0
IsCountFault p k TooDeep = 8 < k
IsCountFault p k Overflow = (k ≤ 8) × ((n : ℕ) × IsGameCount p k n × (2 ^ 64 ≤ n))
IsCountFault p k Memory = (2 ≤ k) × (k ≤ 8)
