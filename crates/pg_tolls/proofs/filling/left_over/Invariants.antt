use Rattle.pg_tolls.proofs.Common.{◌≡◌, length, AreLeftOver}
use Rattle.pg_tolls.proofs.filling.left_over.Given as goal

abbrev pub invariant-loop-at : goal.invariant-loop-at
invariant-loop-at l = record { long : length l.over ≡ 64; is : AreLeftOver l.rows l.over l.at }
