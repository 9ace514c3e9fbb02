use Rattle.pg_moves.proofs.Common.{arith}
use Rattle.pg_moves.proofs.LeafLemmas.{exact_adds}
use Rattle.pg_moves.proofs.SearchLemmas.{own_of}
use Rattle.pg_moves.proofs.OffLemmas.{counted_few, counted_pinned, still_own}
use Rattle.pg_moves.proofs.leaves.count_of_color.Goals as goal

pub count_each-pinned-requires : goal.count_each-pinned-requires
count_each-pinned-requires c = rw c.new-player.ensures (still_own c.args.position.now c.squares_of_color.result c.single.result c.sub-others.result
    c.find_guard-guard.result.pinned c.bitand.result
    (own_of c.args.position.now c.squares_of_color.result c.board-board.result c.args.color c.board-board.ensures.value c.requires c.squares_of_color.ensures)
    c.sub-others.ensures.members c.bitand.ensures.members)

pub overflow_add-counted : goal.overflow_add-counted
overflow_add-counted c = omega (arith, c.len-king.ensures.bound, counted_few c.new-player.result _ c.count_each-pinned.result c.count_each-pinned.ensures)

pub invariant_of-counted : goal.invariant_of-counted
invariant_of-counted c = rw c.new-player.ensures (counted_pinned c.args.position.now c.squares_of_color.result c.find_guard-guard.result.king c.single.result
    c.sub-others.result c.len-king.result c.find_guard-guard.result.pinned c.find_guard-guard.result.goals c.bitand.result c.sub.result c.count_each-pinned.result
    (own_of c.args.position.now c.squares_of_color.result c.board-board.result c.args.color c.board-board.ensures.value c.requires c.squares_of_color.ensures)
    c.index-king.ensures.bound (rw c.new-player.ensures at c.find_guard-guard.ensures.king) c.single.ensures
    (exact_adds c.args.position.now c.find_guard-guard.result.king c.king_targets_of.result (rw c.new-player.ensures at c.king_targets_of.ensures) _ c.len-king.ensures.squares)
    c.len-king.ensures.bound c.sub-others.ensures.members (rw c.new-player.ensures at c.find_guard-guard.ensures.guards) c.bitand.ensures.members
    (rw c.new-player.ensures at c.count_each-pinned.ensures) c.sub.ensures.members)
