use Rattle.pg_journeys.proofs.Common.{All, Placement, IsRemembered}
use Rattle.pg_journeys.proofs.memory.remember_all.Given as goal

abbrev pub invariant-loop-other : goal.invariant-loop-other
invariant-loop-other l = (d : Placement) → All (IsRemembered d) l.fn.shown → All (IsRemembered d) l.fn.others → All (IsRemembered d) l.shown
