use Rattle.pg_checker.proofs.Common.{◌≡◌, ◌≤◌, length, reverse, take, path}
use Rattle.pg_checker.proofs.machine.game_along.Given as goal

-- the moves of the frames so far
abbrev pub invariant-loop-frame : goal.invariant-loop-frame
invariant-loop-frame l = (l.game.items ≡ path (reverse (take l.frame-index l.frames))) × (length l.game.items ≤ l.frame-index)
