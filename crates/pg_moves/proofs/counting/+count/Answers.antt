use Rattle.pg_moves.proofs.Common.{◌≡◌, ◌≤◌, ◌+◌, ◌^◌, ◌-◌, sym, arith}
use Rattle.pg_moves.proofs.CountLemmas.{count_none, one_less, follow_is, count_whole, over, fault_up, sum_on, listed_legal}
use Rattle.pg_moves.proofs.counting.+count.Goals as goal

pub count_from-returns-in-0 : goal.count_from-returns-in-0
count_from-returns-in-0 g t c = count_none c.args.position.now c.args.plies c.in-0.is

pub count_listed-after-next-requires : goal.count_listed-after-next-requires
count_listed-after-next-requires g t c = listed_legal c.args.position.now c.deref-m-items.result.now c.loop-m.m-index c.m-item.result (rw (← c.deref-m-items.ensures.value) at c.in_ok-moves.ensures.ok) c.loop-m-test.true c.m-item.is

pub count_listed-returns-in-None : goal.count_listed-returns-in-None
count_listed-returns-in-None g t c = let big : 2 ^ 64 ≤ c.loop-m.total + c.in-Ok.games = omega (arith, c.in-None.ensures) in over c.args.position.now c.args.plies (c.args.plies - 1) c.deref-m-items.result.now c.side.ensures.position (rw (← c.deref-m-items.ensures.value) at c.in_ok-moves.ensures.ok) (one_less c.args.plies c.requires.some) c.loop-m.m-index c.m-item.result c.loop-m.total c.in-Ok.games c.loop-m-test.true (sym c.m-item.is) c.loop-m.invariant (follow_is c.args.position.now c.args.plies (c.args.plies - 1) c.deref-m-items.result.now c.side.ensures.position (rw (← c.deref-m-items.ensures.value) at c.in_ok-moves.ensures.ok) (one_less c.args.plies c.requires.some) c.m-item.result c.after-next.result c.in-Ok.games c.after-next.ensures.legal c.in-Ok.ensures) big c.requires.few

pub count_listed-returns-in-Err : goal.count_listed-returns-in-Err
count_listed-returns-in-Err g t c = fault_up c.args.position.now c.args.plies (c.args.plies - 1) c.deref-m-items.result.now c.side.ensures.position (rw (← c.deref-m-items.ensures.value) at c.in_ok-moves.ensures.ok) (one_less c.args.plies c.requires.some) c.in-Err.fault c.loop-m.m-index c.m-item.result c.after-next.result c.loop-m-test.true (sym c.m-item.is) c.after-next.ensures.legal c.in-Err.ensures c.requires.few

pub count_listed-loop-m-preserved : goal.count_listed-loop-m-preserved
count_listed-loop-m-preserved g t c = let sum : c.in-Some.sum ≡ c.loop-m.total + c.in-Ok.games = omega (arith, c.in-Some.ensures) in sum_on c.args.position.now c.args.plies (c.args.plies - 1) c.deref-m-items.result.now c.side.ensures.position (rw (← c.deref-m-items.ensures.value) at c.in_ok-moves.ensures.ok) (one_less c.args.plies c.requires.some) c.loop-m.m-index c.m-item.result c.loop-m.total c.in-Ok.games c.in-Some.sum c.loop-m-test.true (sym c.m-item.is) c.loop-m.invariant (follow_is c.args.position.now c.args.plies (c.args.plies - 1) c.deref-m-items.result.now c.side.ensures.position (rw (← c.deref-m-items.ensures.value) at c.in_ok-moves.ensures.ok) (one_less c.args.plies c.requires.some) c.m-item.result c.after-next.result c.in-Ok.games c.after-next.ensures.legal c.in-Ok.ensures) sum

pub count_listed-returns : goal.count_listed-returns
count_listed-returns g t c = count_whole c.args.position.now c.args.plies (c.args.plies - 1) c.deref-m-items.result.now c.side.ensures.position (rw (← c.deref-m-items.ensures.value) at c.in_ok-moves.ensures.ok) (one_less c.args.plies c.requires.some) c.loop-m.m-index c.loop-m.total c.loop-m.invariant c.loop-m-test.false
