use Rattle.pg_position.proofs.Common.{has, count_below}
use Rattle.pg_position.proofs.SiftedKings.{AreLeft}
use Rattle.pg_position.proofs.boards.in_check.Given as goal

-- those that are left are kings, and no other king is attacked
abbrev pub invariant-loop-king : goal.invariant-loop-king
invariant-loop-king l = AreLeft l.board l.color l.kings

abbrev pub decreases-loop-king : goal.decreases-loop-king
decreases-loop-king l = count_below (has l.kings) 64
