use Rattle.pg_moves.proofs.Common.{arith}
use Rattle.pg_moves.proofs.OffLemmas.{taking_start, taking_step, taking_end, taking_few, left_fewer}
use Rattle.pg_moves.proofs.leaves.count_each.Goals as goal

pub loop-from-init : goal.loop-from-init
loop-from-init c = taking_start c.args.player.now c.args.men

pub loop-from-smaller : goal.loop-from-smaller
loop-from-smaller c = omega (arith, left_fewer c.loop-from.left c.pop_first.new.self c.in-Some.from c.in-Some.ensures.rest c.in-Some.ensures.taken)

pub count_of_square-total-requires : goal.count_of_square-total-requires
count_of_square-total-requires c = rw c.position.ensures
    (c.requires c.in-Some.from c.in-Some.ensures.taken.on_board (c.loop-from.invariant.inside c.in-Some.from c.in-Some.ensures.taken.on_board c.in-Some.ensures.taken.member))

pub overflow_add-total : goal.overflow_add-total
overflow_add-total c = omega (arith, taking_few c.args.player.now c.args.men c.loop-from.left c.loop-from.total c.loop-from.invariant, c.count_of_square-total.ensures.bound)

pub loop-from-preserved : goal.loop-from-preserved
loop-from-preserved c = taking_step c.args.player.now c.args.men c.loop-from.left c.pop_first.new.self c.in-Some.from c.loop-from.total
    c.count_of_square-total.result c.loop-from.invariant c.in-Some.ensures.taken c.in-Some.ensures.rest
    (rw c.position.ensures at c.count_of_square-total.ensures.count) c.count_of_square-total.ensures.bound

pub returns : goal.returns
returns c = taking_end c.args.player.now c.args.men c.loop-from.left c.loop-from.total c.loop-from.invariant c.in_default.ensures.taken
