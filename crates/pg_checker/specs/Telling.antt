-- What a refusal proves that names a game, or how many plies a game has.
use Rattle.std.specs.Prelude.{ℕ, ◌<◌, List, Result, Err}
use Rattle.std.specs.List.{Contains}
use Rattle.pg_board.specs.Placement.{Placement}
use Rattle.pg_position.specs.declared.moves.Move.{Move}
use Rattle.pg_checker.specs.Answer.{IsSolution}
use Rattle.pg_checker.specs.declared.fault.Fault.{Fault}
use Rattle.pg_checker.specs.declared.fault.Fault.TheVariants as fault
use Rattle.pg_checker.specs.declared.certify.Proved.{Proved}

-- the game is a solution, and the list lacks it
abbrev pub IsMissing : Placement → ℕ → List (List Move) → List Move → Type 0
IsMissing d n games game = IsSolution d n game × ¬ Contains games game

-- m is less than n, and a game of m plies ends on the diagram d
abbrev pub HasShorter : Placement → ℕ → ℕ → Type 0
HasShorter d n m = (m < n) × ((ms : List Move) × IsSolution d m ms)

-- a game that is called unlisted is missing, and where m plies are called shorter a game of m plies is
abbrev pub Tells : Placement → ℕ → List (List Move) → Result Proved Fault → Type 0
Tells d n games (Err (fault.Unlisted game)) = IsMissing d n games game.items
Tells d n games (Err (fault.Shorter m)) = HasShorter d n m
Tells d n games _ = Unit {0}
