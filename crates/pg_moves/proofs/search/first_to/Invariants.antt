use Rattle.pg_moves.proofs.Common.{place_of, NoneFrom}
use Rattle.pg_moves.proofs.search.first_to.Given as goal

abbrev pub invariant-loop-k : goal.invariant-loop-k
invariant-loop-k l = NoneFrom l.position (place_of l.from l.target.to l.target.number) (place_of l.from l.target.to l.k)
