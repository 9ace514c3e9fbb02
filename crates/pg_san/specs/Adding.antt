-- What adding a game to a list of games changes, and why a game is not added.
use Rattle.std.specs.Prelude.{◌≡◌, ◌↔◌, ℕ, ◌+◌, ◌<◌, ◌⊎◌, List, ◌∷◌, ◌++◌, length}
use Rattle.std.specs.List.{Contains}
use Rattle.pg_position.specs.declared.state.State.{State}
use Rattle.pg_position.specs.declared.moves.Move.{Move}
use Rattle.pg_position.specs.Array.{array_state}
use Rattle.pg_position.specs.Game.{IsGame}
use Rattle.pg_position.specs.Step.{IsLegal}
use Rattle.pg_san.specs.declared.adding.AddFault.{AddFault}
use Rattle.pg_san.specs.declared.adding.AddFault.TheVariants.{IllegalMove, TooMany, Repeated, Memory}
use Rattle.pg_san.specs.Games.{IsFromArray, IsGames}

-- the moves before this ply, counted from 1, are a game from the initial array, and the ply's move is not legal after
-- them
pub record IsIllegalAt (g : List Move) (ply : ℕ) : Type 0 where
  pub before : List Move
  pub move : Move
  pub after : List Move
  pub here : State
  pub is : g ≡ before ++ move ∷ after
  pub counts : ply ≡ length before + 1
  pub game : IsGame array_state before here
  pub illegal : ¬ IsLegal here move

-- a game from the array, of which the list has not got it and has room for it
pub record IsNew (gs : List (List Move)) (g : List Move) : Type 0 where
  pub legal : IsFromArray g
  pub room : length gs < 4096
  pub other : ¬ Contains gs g

-- the list hs holds the games of gs and this game, which gs has not
pub record IsAdded (gs : List (List Move)) (g : List Move) (hs : List (List Move)) : Type 0 where
  pub new : IsNew gs g
  pub games : IsGames hs
  pub has : (x : List Move) → Contains hs x ↔ (Contains gs x ⊎ (x ≡ g))
  pub one_more : length hs ≡ length gs + 1

-- why a game is not added: an illegal move, else a full list, else the list has the game, else no memory
abbrev pub IsAddFault : List (List Move) → List Move → AddFault → Type 0
IsAddFault gs g (IllegalMove ply) = IsIllegalAt g ply
IsAddFault gs g TooMany = IsFromArray g × (length gs ≡ 4096)
IsAddFault gs g Repeated = IsFromArray g × (length gs < 4096) × Contains gs g
IsAddFault gs g Memory = IsNew gs g

-- why a game from the array is not added where there is room: the list has the game, else no memory
abbrev pub IsAdmitFault : List (List Move) → List Move → AddFault → Type 0
IsAdmitFault gs g Repeated = Contains gs g
IsAdmitFault gs g Memory = IsNew gs g
IsAdmitFault gs g TooMany = ⊥
IsAdmitFault gs g (IllegalMove ply) = ⊥
