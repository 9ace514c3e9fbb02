use Rattle.std.proofs.Common.{take}
use Rattle.pg_position.specs.Array.{array_state}
use Rattle.pg_position.specs.Game.{IsGame}
use Rattle.pg_hints.proofs.misfits.end_of.Given as goal

-- the moves so far lead to the position
abbrev pub invariant-loop-m : goal.invariant-loop-m
invariant-loop-m l = IsGame array_state (take l.m-index l.game) l.position
