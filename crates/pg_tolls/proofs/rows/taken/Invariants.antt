use Rattle.pg_tolls.proofs.Common.{◌≡◌, length, stated, AreTaken}
use Rattle.pg_tolls.proofs.rows.taken.Given as goal

abbrev pub invariant-loop-at : goal.invariant-loop-at
invariant-loop-at l = record { long : length l.taken ≡ 64; is : AreTaken (stated l.tariff) l.color l.rows l.taken l.at }
