use Rattle.pg_san.proofs.CompareLemmas.{AreAlikeTo}
use Rattle.pg_san.proofs.games.compare.Given as goal

abbrev pub invariant-loop-i : goal.invariant-loop-i
invariant-loop-i l = AreAlikeTo l.a l.b l.i
