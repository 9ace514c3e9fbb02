use Rattle.pg_tolls.proofs.Common.{stated, HasLowTolls}
use Rattle.pg_tolls.proofs.tables.look_at_tolls.Given as goal

abbrev pub invariant-loop-at : goal.invariant-loop-at
invariant-loop-at l = HasLowTolls (stated l.tariff) l.color l.at
