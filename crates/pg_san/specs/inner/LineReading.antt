-- What the steps of reading a text of games give, a line at a time.
use Rattle.std.specs.Prelude.{◌≡◌, ℕ, ◌⊎◌, List, []}
use Rattle.pg_position.specs.declared.moves.Move.{Move}
use Rattle.pg_san.specs.declared.listing.LineFault.{LineFault}
use Rattle.pg_san.specs.declared.listing.LineFault.TheVariants.{Word, NoMemory}
use Rattle.pg_san.specs.Adding.{IsAdded}
use Rattle.pg_san.specs.GameText.{words}
use Rattle.pg_san.specs.Listing.{AreGame, IsBadWord, IsBadLine, IsGameLine}

-- why words are no game that is kept: one is not read; or they are a game, and memory was refused
abbrev pub IsWordsFault : List (List ℕ) → LineFault → Type 0
IsWordsFault ws NoMemory = (g : List Move) × AreGame ws g
IsWordsFault ws (Word ply cause) = IsBadWord ws ply cause

-- why a line is no game that is kept
abbrev pub IsGameFault : List ℕ → LineFault → Type 0
IsGameFault line NoMemory = (g : List Move) × IsGameLine line g
IsGameFault line (Word ply cause) = IsBadLine line ply cause

-- behind the line the list holds its game too, or, where the line has no words, is as it was
unfoldable pub IsLineRead : List ℕ → List (List Move) → List (List Move) → Type 0
IsLineRead line gs hs = ((words line ≡ []) × (hs ≡ gs)) ⊎ ((g : List Move) × IsGameLine line g × IsAdded gs g hs)
