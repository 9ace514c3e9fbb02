use Rattle.pg_san.proofs.Common.{take, array_state, IsGame}
use Rattle.pg_san.proofs.games.first_illegal.Given as goal

abbrev pub invariant-loop-i : goal.invariant-loop-i
invariant-loop-i l = IsGame array_state (take l.i l.game) l.position
