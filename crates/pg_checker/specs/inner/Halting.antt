-- Why the walk stops, and what a halt of the code says with the game along the open nodes.
use Rattle.std.specs.Prelude.{List, Result, Ok, Err}
use Rattle.pg_position.specs.declared.moves.Move.{Move}
use Rattle.pg_checker.specs.Tree as tree
use Rattle.pg_checker.specs.declared.halt.Reason.{Reason}
use Rattle.pg_checker.specs.declared.halt.Reason.TheVariants as reason
use Rattle.pg_checker.specs.declared.halt.Halt.{Halt}
use Rattle.pg_checker.specs.declared.halt.Halt.TheVariants as halt

-- for want of memory, for a source that has failed, or for a cause in the certificate
pub data Stop : Type 0 where
  Memory : Stop
  Read : Stop
  Because : (cause : tree.Cause Move) → Stop

-- the fault of a reason at the end of a game
abbrev pub cause_with : List Move → Reason → tree.Cause Move
cause_with game reason.Budget = tree.Budget
cause_with game reason.Truncated = tree.Truncated
cause_with game (reason.UnknownRecord b) = tree.UnknownRecord b
cause_with game (reason.UnknownBound c) = tree.UnknownBound c
cause_with game (reason.CutFails c) = tree.CutFails c
cause_with game reason.RefUnknown = tree.RefUnknown
cause_with game reason.RefDiffers = tree.RefDiffers
cause_with game reason.RefFertile = tree.RefFertile
cause_with game reason.TooManyNamed = tree.TooManyNamed
cause_with game (reason.Shorter n) = tree.Shorter n
cause_with game reason.Unlisted = tree.Unlisted game
cause_with game reason.Trailing = tree.Trailing

abbrev pub full : List Move → Halt → Stop
full game halt.Memory = Memory
full game halt.Read = Read
full game (halt.Because r) = Because (cause_with game r)

abbrev pub causes : {X : Type 0} → List Move → Result X Reason → Result X (tree.Cause Move)
causes game (Ok x) = Ok x
causes game (Err r) = Err (cause_with game r)

abbrev pub stops : {X : Type 0} → List Move → Result X Halt → Result X Stop
stops game (Ok x) = Ok x
stops game (Err h) = Err (full game h)
