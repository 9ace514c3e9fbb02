use Rattle.pg_checker.proofs.Common.{AreFine}
use Rattle.pg_checker.proofs.listed.check_listed.Given as goal

abbrev pub invariant-loop-i : goal.invariant-loop-i
invariant-loop-i l = AreFine l.diagram l.plies l.games l.i
