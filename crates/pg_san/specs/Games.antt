-- A list of games: at most 4,096 different games from the initial array, in canonical order.
use Rattle.std.specs.Prelude.{◌≡◌, ℕ, ◌≤◌, List, length, take, drop}
use Rattle.std.specs.declared.cmp.Ordering.{Ordering}
use Rattle.std.specs.declared.cmp.Ordering.TheVariants.{Less}
use Rattle.std.specs.Cmp.Lexicographic.{slice_cmp}
use Rattle.std.specs.List.{Contains}
use Rattle.std.specs.List.Sorted.{IsStrictlySortedBy}
use Rattle.pg_position.specs.declared.state.State.{State}
use Rattle.pg_position.specs.declared.moves.Move.{Move}
use Rattle.pg_position.specs.Array.{array_state}
use Rattle.pg_position.specs.Game.{IsGame}
use Rattle.pg_moves.specs.Moves.{move_cmp}

-- the canonical order of games: the first moves that differ decide, and a game comes before each that goes on from it
abbrev pub game_cmp : List Move → List Move → Ordering
game_cmp = slice_cmp move_cmp

-- the moves are legal, one after another, from the initial array on
unfoldable pub IsFromArray : List Move → Type 0
IsFromArray g = (r : State) × IsGame array_state g r

-- different games from the initial array, in canonical order, at most 4,096
pub record IsGames (gs : List (List Move)) : Type 0 where
  pub ascends : IsStrictlySortedBy game_cmp gs
  pub legal : (g : List Move) → Contains gs g → IsFromArray g
  pub few : length gs ≤ 4096

-- the game comes after the first i games and before the others
pub record IsPlace (gs : List (List Move)) (g : List Move) (i : ℕ) : Type 0 where
  pub within : i ≤ length gs
  pub past : (x : List Move) → Contains (take i gs) x → game_cmp x g ≡ Less
  pub short : (x : List Move) → Contains (drop i gs) x → game_cmp g x ≡ Less
