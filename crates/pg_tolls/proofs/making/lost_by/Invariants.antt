use Rattle.pg_tolls.proofs.Common.{◌≡◌, length, stated, AreLost}
use Rattle.pg_tolls.proofs.making.lost_by.Given as goal

abbrev pub invariant-loop-at : goal.invariant-loop-at
invariant-loop-at l = record { long : length l.lost ≡ 64; is : AreLost (stated l.tariff) l.color l.lost l.at }
