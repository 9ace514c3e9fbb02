-- The movetext of a game, as in `1. e4 e5 2. Nf3` (the PGN standard, section 8.2): before each move of White its
-- number, a dot and a space; one space between two words; `-` for the game of no move.
use Rattle.std.specs.Prelude.{◌≡◌, ℕ, ◌+◌, ◌/◌, ◌%◌, ◌≤◌, ◌==◌, List, [], ◌∷◌, ◌++◌, Option, length, codes, if◌then◌else◌}
use Rattle.std.specs.Fmt.{decimal}
use Rattle.pg_certificate.specs.Pushing.{AddsSome}
use Rattle.pg_position.specs.declared.state.State.{State}
use Rattle.pg_position.specs.declared.moves.Move.{Move}
use Rattle.pg_position.specs.Step.{Legal}
use Rattle.pg_position.specs.Array.{array_state}
use Rattle.pg_san.specs.Games.{IsFromArray}
use Rattle.pg_san.specs.Writing.{IsSan}

-- a space before each ply but the first; plies are counted from 0
abbrev pub space_text : ℕ → List ℕ
space_text ply = if ply == 0 then [] else codes " "

-- before a ply of White's the number of the move, a dot and a space
abbrev pub number_text : ℕ → List ℕ
number_text ply = if ply % 2 == 0 then decimal (ply / 2 + 1) ++ codes ". " else []

-- the moves are legal, one after another, from p on, and lead to
-- q; and this is their text, where the first of them is this ply
unfoldable pub ArePlies : ℕ → State → List Move → State → List ℕ → Type 0
ArePlies ply p [] q text = (p ≡ q) × (text ≡ [])
ArePlies ply p (m ∷ ms) q text =
    (r : State) × (san : List ℕ) × (rest : List ℕ) × Legal p m r × IsSan p m san × ArePlies (ply + 1) r ms q rest
    × (text ≡ space_text ply ++ (number_text ply ++ (san ++ rest)))

-- the movetext of a game from the initial array
unfoldable pub IsMovetext : List Move → List ℕ → Type 0
IsMovetext [] text = text ≡ codes "-"
IsMovetext (m ∷ ms) text = (q : State) × ArePlies 0 array_state (m ∷ ms) q text

-- the longest front of the moves that is a game from the initial array
pub record IsLongestGame (ms game : List Move) : Type 0 where
  pub rest : List Move
  pub is : ms ≡ game ++ rest
  pub legal : IsFromArray game
  pub longest : (longer more : List Move) → ms ≡ longer ++ more → IsFromArray longer → length longer ≤ length game

-- the movetext of this game is appended
abbrev pub AddsLongest : List Move → Option (List ℕ) → Option (List ℕ) → Type 0
AddsLongest ms before after = (game : List Move) × IsLongestGame ms game × AddsSome (IsMovetext game) before after
