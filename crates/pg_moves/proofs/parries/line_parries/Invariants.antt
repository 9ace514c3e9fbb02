use Rattle.pg_moves.proofs.Common.{◌-◌}
use Rattle.pg_moves.proofs.WayLemmas.{KeptTo}
use Rattle.pg_moves.proofs.parries.line_parries.Given as goal

abbrev pub invariant-loop-attacker : goal.invariant-loop-attacker
invariant-loop-attacker l = KeptTo l.board l.fn.by l.fn.square l.attackers l.at l.kept

abbrev pub decreases-loop-attacker : goal.decreases-loop-attacker
decreases-loop-attacker l = 64 - l.at
