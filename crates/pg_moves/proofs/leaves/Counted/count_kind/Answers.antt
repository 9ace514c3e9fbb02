use Rattle.pg_moves.proofs.Common.{arith}
use Rattle.pg_moves.proofs.OffLemmas.{counted_few, counted_more, inside_both}
use Rattle.pg_moves.proofs.GuardLemmas.{men_guarded}
use Rattle.pg_moves.proofs.leaves.Counted.count_kind.Goals as goal

pub count_of_men-requires-clause-guarded : goal.count_of_men-requires-clause-guarded
count_of_men-requires-clause-guarded c = men_guarded c.self.inside.player c.board.result.now c.color.result c.args.kind c.self.inside.guard.pinned
    c.self.inside.guard.goals c.self.inside.left c.squares_of.result c.bitand-men.result c.board.ensures c.color.ensures.value c.self.invariant.guards
    c.self.invariant.off
    (rw c.new-man.ensures at c.squares_of.ensures) c.bitand-men.ensures.members

pub overflow_add-self : goal.overflow_add-self
overflow_add-self c = omega
    (arith, counted_few c.self.inside.player _ c.self.inside.total c.self.invariant.counts.counts, counted_few c.self.inside.player _ c.count_of_men.result c.count_of_men.ensures)

pub invariant_of-self : goal.invariant_of-self
invariant_of-self c = counted_more c.self.inside.player c.self.inside.guard.pinned c.self.inside.guard.goals c.self.inside.left c.bitand-men.result
    c.sub-self-inside.result c.self.inside.total c.count_of_men.result c.self.invariant c.count_of_men.ensures
    (inside_both c.self.inside.left c.squares_of.result c.bitand-men.result c.bitand-men.ensures.members) c.sub-self-inside.ensures.members
