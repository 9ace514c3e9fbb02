use Rattle.pg_moves.proofs.Common.{arith}
use Rattle.pg_moves.proofs.OffLemmas.{counted_few, counted_last}
use Rattle.pg_moves.proofs.leaves.Counted.count_rest.Goals as goal

pub count_each-requires : goal.count_each-requires
count_each-requires c = c.self.invariant.counts.own

pub overflow_add-result : goal.overflow_add-result
overflow_add-result c = omega
    (arith, counted_few c.self.inside.player _ c.self.inside.total c.self.invariant.counts.counts, counted_few c.self.inside.player _ c.count_each.result c.count_each.ensures)

pub returns : goal.returns
returns c = rw (← c.self.view_is) (counted_last c.self.inside.player c.self.inside.left c.self.inside.total c.count_each.result c.color.ensures.position c.self.invariant.counts c.count_each.ensures)
