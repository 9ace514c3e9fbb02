-- What the steps of reading a file of games say.
use Rattle.std.specs.Prelude.{◌≡◌, ℕ, ◌⊎◌, List, map, Err, All}
use Rattle.pg_position.specs.Array.{array_state}
use Rattle.pg_position.specs.Game.{IsGame}
use Rattle.pg_san.specs.Games.{IsFromArray}
use Rattle.pg_san.specs.Matching.{IsReading}
use Rattle.pg_pgn.specs.declared.tokens.TokenKind.{TokenKind}
use Rattle.pg_pgn.specs.declared.tokens.TokenKind.TheVariants.{Comment, Tag}
use Rattle.pg_pgn.specs.declared.signs.Sign.{Sign}
use Rattle.pg_pgn.specs.declared.signs.Sign.TheVariants.{Nothing, Heads, Fen, SetUp, Result, Moves}
use Rattle.pg_pgn.specs.declared.fault.PgnFault.{PgnFault}
use Rattle.pg_pgn.specs.declared.fault.PgnFault.TheVariants as Told
use Rattle.pg_pgn.specs.declared.fault.PgnFault.TheVariants.{At}
use Rattle.pg_pgn.specs.declared.fault.FormFault.{FormFault}
use Rattle.pg_pgn.specs.declared.fault.FormFault.TheVariants as Fault
use Rattle.pg_pgn.specs.declared.reading.Reading.{Reading}
use Rattle.pg_pgn.specs.declared.reading.Cause.{Cause}
use Rattle.pg_pgn.specs.declared.reading.Cause.TheVariants.{Word, Form, NoMemory}
use Rattle.pg_pgn.specs.Tokens.{IsUnclosed}
use Rattle.pg_pgn.specs.Pgn.{Reader, IsPlace, IsSignFault}

-- what a reader knows
abbrev pub at : Reading → Reader
at r = record {
  games = map (λ v. v.items) r.games.items;
  moves = r.moves.items;
  here = r.here;
  headed = r.headed;
  depth = r.depth;
}

-- the signs of tag pairs, and those of words
abbrev pub IsOfTag : Sign → Type 0
IsOfTag Heads = Unit {0}
IsOfTag Fen = Unit {0}
IsOfTag SetUp = Unit {0}
IsOfTag sign = ⊥

abbrev pub IsOfWord : Sign → Type 0
IsOfWord Nothing = Unit {0}
IsOfWord Result = Unit {0}
IsOfWord Moves = Unit {0}
IsOfWord sign = ⊥

-- why a token that says this, in this text, is not read; want of memory may come anywhere
abbrev pub IsCause : Sign → Reader → List ℕ → Cause → Type 0
IsCause sign r text NoMemory = Unit {0}
IsCause sign r text (Form f) = IsSignFault sign r f
IsCause sign r text (Word cause) = (sign ≡ Moves) × (r.depth ≡ 0) × IsReading r.here text (Err cause)

-- the fault of a token that is not closed: comments and tag pairs alone may not be
abbrev pub open_fault : TokenKind → FormFault
open_fault Comment = Fault.Comment
open_fault kind = Fault.Tag

-- a text begins with a token that is not closed
abbrev pub IsOpen : List ℕ → FormFault → Type 0
IsOpen text f = (IsUnclosed text Comment × (f ≡ Fault.Comment)) ⊎ (IsUnclosed text Tag × (f ≡ Fault.Tag))

-- the fault that is told for a cause where the rest of a text begins
abbrev pub Tells : List ℕ → List ℕ → ℕ → ℕ → Cause → PgnFault → Type 0
Tells text rest game ply NoMemory fault = fault ≡ Told.Memory
Tells text rest game ply (Form f) fault =
    (line : ℕ) × (column : ℕ) × IsPlace text rest line column × (fault ≡ Told.Form line column game f)
Tells text rest game ply (Word cause) (At line column number move word why) =
    IsPlace text rest line column × (number ≡ game) × (move ≡ ply) × (why ≡ cause)
Tells text rest game ply (Word cause) fault = ⊥

-- the games that have ended are games from the initial array, and so are the moves at hand, which lead here
pub record AreLegal (r : Reader) : Type 0 where
  pub games : All IsFromArray r.games
  pub moves : IsGame array_state r.moves r.here
