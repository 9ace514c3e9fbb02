-- The games that a text lists, line by line, and the first fault of a text that lists none.
use Rattle.std.specs.Prelude.{◌≡◌, ◌≢◌, ◌↔◌, ℕ, ◌+◌, ◌<◌, ◌≤◌, ◌⊎◌, List, [], ◌∷◌, ◌++◌, length, Ok, Err}
use Rattle.std.specs.List.{Contains}
use Rattle.pg_position.specs.declared.state.State.{State}
use Rattle.pg_position.specs.declared.moves.Move.{Move}
use Rattle.pg_position.specs.Array.{array_state}
use Rattle.pg_position.specs.Step.{Legal}
use Rattle.pg_position.specs.Game.{IsOnce}
use Rattle.pg_san.specs.declared.fault.SanFault.{SanFault}
use Rattle.pg_san.specs.declared.listing_fault.GamesFault.{GamesFault}
use Rattle.pg_san.specs.declared.listing_fault.GamesFault.TheVariants.{At, TooMany, Repeated, Memory}
use Rattle.pg_san.specs.Games.{IsGames}
use Rattle.pg_san.specs.GameText.{lines, words, without_move_number, dash}
use Rattle.pg_san.specs.Matching.{IsReading}

-- ---- a line
-- the words are these moves, one after another, from p on, and lead to q; a word that is a move number alone is skipped
unfoldable pub Spells : State → List (List ℕ) → List Move → State → Type 0
Spells p [] ms q = (ms ≡ []) × (p ≡ q)
Spells p (w ∷ ws) ms q =
    ((without_move_number w ≡ []) × Spells p ws ms q)
    ⊎ ((without_move_number w ≢ []) × ((m : Move) × (ns : List Move) × (r : State) × (ms ≡ m ∷ ns)
    × IsReading p (without_move_number w) (Ok m) × Legal p m r × Spells r ws ns q))

-- the words are this game, from the initial array on
abbrev pub AreGame : List (List ℕ) → List Move → Type 0
AreGame ws g = (q : State) × Spells array_state ws g q

-- the words before one of the words are a game, and that word is the move of this ply, counted from 1, but is not
-- read, for this cause
pub record IsBadWord (ws : List (List ℕ)) (ply : ℕ) (cause : SanFault) : Type 0 where
  pub before : List (List ℕ)
  pub word : List ℕ
  pub after : List (List ℕ)
  pub moves : List Move
  pub here : State
  pub is : ws ≡ before ++ word ∷ after
  pub spells : Spells array_state before moves here
  pub some : without_move_number word ≢ []
  pub counts : ply ≡ length moves + 1
  pub refused : IsReading here (without_move_number word) (Err cause)

-- the line has words, and they are this game: `-` alone is the game of no move
unfoldable pub IsGameLine : List ℕ → List Move → Type 0
IsGameLine line g =
    (words line ≢ []) × (((words line ≡ dash) × (g ≡ [])) ⊎ ((words line ≢ dash) × AreGame (words line) g))

-- the line has words, and one of them, the move of this ply, is not read, for this cause
unfoldable pub IsBadLine : List ℕ → ℕ → SanFault → Type 0
IsBadLine line ply cause = (words line ≢ []) × (words line ≢ dash) × IsBadWord (words line) ply cause

-- ---- a text
-- the lines give these games, one a line and in their order; a line without words is skipped
unfoldable pub Give : List (List ℕ) → List (List Move) → Type 0
Give [] gs = gs ≡ []
Give (line ∷ more) gs =
    ((words line ≡ []) × Give more gs)
    ⊎ ((g : List Move) × (hs : List (List Move)) × (gs ≡ g ∷ hs) × IsGameLine line g × Give more hs)

-- they give these games without a fault: different ones, at most 4,096
pub record AreRead (ls : List (List ℕ)) (gs : List (List Move)) : Type 0 where
  pub gives : Give ls gs
  pub once : IsOnce gs
  pub few : length gs ≤ 4096

-- the list of games is that of the text
pub record IsListing (text : List ℕ) (games : List (List Move)) : Type 0 where
  pub found : List (List Move)
  pub read : AreRead (lines text) found
  pub sorted : IsGames games
  pub has : (g : List Move) → Contains games g ↔ Contains found g

-- the line has this number, counted from 1, and the lines before it give these games without a fault
pub record IsLine (text : List ℕ) (number : ℕ) (line : List ℕ) (gs : List (List Move)) : Type 0 where
  pub before : List (List ℕ)
  pub after : List (List ℕ)
  pub is : lines text ≡ before ++ line ∷ after
  pub counts : number ≡ length before + 1
  pub read : AreRead before gs

-- a line's fault, behind these games: with 4,096 of them a line with words is one too many; else the first bad word;
-- else the game of an earlier line, or want of memory for a game
abbrev pub IsLineFault : List ℕ → ℕ → List (List Move) → GamesFault → Type 0
IsLineFault line n gs (TooMany number) = (number ≡ n) × (words line ≢ []) × (length gs ≡ 4096)
IsLineFault line n gs (At number ply cause) = (number ≡ n) × (length gs < 4096) × IsBadLine line ply cause
IsLineFault line n gs (Repeated number) =
    (number ≡ n) × (length gs < 4096) × ((g : List Move) × IsGameLine line g × Contains gs g)
IsLineFault line n gs Memory = (length gs < 4096) × ((g : List Move) × IsGameLine line g)

-- the first fault of a text
abbrev pub IsTextFault : List ℕ → GamesFault → Type 0
IsTextFault text fault =
    (n : ℕ) × (line : List ℕ) × (gs : List (List Move)) × IsLine text n line gs × IsLineFault line n gs fault
