use Rattle.pg_pgn.proofs.EndLemmas.{lasts_end, lasts_legal, lasts_on, lasts_start}
use Rattle.pg_pgn.proofs.ends.end_of.Goals as goal

pub loop-m-init : goal.loop-m-init
loop-m-init c = lasts_start c.args.game.now c.array-last.result c.array-last.ensures c.requires

pub after-last-requires : goal.after-last-requires
after-last-requires c = lasts_legal c.args.game.now c.loop-m.m-index c.loop-m.still c.loop-m.last c.m-item.result c.loop-m-test.true c.m-item.is c.loop-m.invariant

pub loop-m-preserved : goal.loop-m-preserved
loop-m-preserved c = lasts_on c.args.game.now c.loop-m.m-index c.loop-m.still c.still_after-still.result c.loop-m.last c.after-last.result c.m-item.result c.loop-m-test.true c.m-item.is c.loop-m.invariant c.after-last.ensures.from c.after-last.ensures.legal c.still_after-still.ensures

pub returns : goal.returns
returns c = lasts_end c.args.game.now c.loop-m.m-index c.loop-m.still c.loop-m.last c.loop-m-test.false c.loop-m.invariant
