use Rattle.pg_moves.proofs.Common.{◌≡◌, ◌-◌, start_after, IsListBelow}
use Rattle.pg_moves.proofs.SearchLemmas.{IsGood}
use Rattle.pg_moves.proofs.generate.legal_moves.Given as goal

abbrev pub invariant-loop-m : goal.invariant-loop-m
invariant-loop-m l = record {
  position : l.left.position ≡ l.position;
  good : IsGood l.left.last;
  list : IsListBelow l.position (start_after l.left.last) l.moves.items;
}

abbrev pub decreases-loop-m : goal.decreases-loop-m
decreases-loop-m l = 28672 - start_after l.left.last
