use Rattle.pg_moves.proofs.Common.{IsToldSource}
use Rattle.pg_moves.proofs.LeafLemmas.{exact_adds}
use Rattle.pg_moves.proofs.leaves.count_of_square.Goals as goal

pub returns-then-source-clause-count : goal.returns-then-source-clause-count
unfolding IsToldSource
returns-then-source-clause-count c = exact_adds c.args.position.now c.args.from c.source_at-source.result.set
    ((rw c.all.ensures at c.source_at-source.ensures).1 c.if-source.true) _ c.len.ensures.squares
