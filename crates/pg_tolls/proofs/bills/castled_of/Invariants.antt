use Rattle.pg_tolls.proofs.Castlings.{IsMade}
use Rattle.pg_tolls.proofs.bills.castled_of.Given as goal

abbrev pub invariant-loop-i : goal.invariant-loop-i
invariant-loop-i l = IsMade l.half l.party l.plain l.wing l.castled l.i
