-- What a stop proves that names a game, or how many plies a game has.
use Rattle.std.specs.Prelude.{ℕ, List, Option}
use Rattle.pg_board.specs.Placement.{Placement}
use Rattle.pg_position.specs.declared.moves.Move.{Move}
use Rattle.pg_checker.specs.Tree as tree
use Rattle.pg_checker.specs.Answer.{IsSolution}
use Rattle.pg_checker.specs.Telling.{HasShorter}
use Rattle.pg_checker.specs.inner.Finds.{IsLacking}
use Rattle.pg_checker.specs.declared.halt.Reason.TheVariants as reason
use Rattle.pg_checker.specs.declared.halt.Halt.{Halt}
use Rattle.pg_checker.specs.declared.halt.Halt.TheVariants as halt
use Rattle.pg_checker.specs.inner.Halting.{Stop}
use Rattle.pg_checker.specs.inner.Halting as stop

-- a game that is called unlisted is a solution that the list lacks which is asked, and where m plies are called shorter a game of m plies is
abbrev pub StopTells : Placement → ℕ → Option (List (List Move)) → Stop → Type 0
StopTells d n list (stop.Because (tree.Unlisted game)) = IsSolution d n game × IsLacking list game
StopTells d n list (stop.Because (tree.Shorter m)) = HasShorter d n m
StopTells d n list _ = Unit {0}

-- a halt that names neither
abbrev pub NamesNoGame : Halt → Type 0
NamesNoGame (halt.Because (reason.Shorter m)) = ⊥
NamesNoGame (halt.Because reason.Unlisted) = ⊥
NamesNoGame _ = Unit {0}
