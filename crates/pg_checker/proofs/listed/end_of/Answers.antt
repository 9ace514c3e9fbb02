use Rattle.pg_checker.proofs.GameSteps.{comes_start, comes_legal, comes_on, comes_end}
use Rattle.pg_checker.proofs.listed.end_of.Goals as goal

pub loop-m-init : goal.loop-m-init
loop-m-init c = comes_start c.args.game.now c.array-position.result c.array-position.ensures c.requires

pub after-position-requires : goal.after-position-requires
after-position-requires c = comes_legal c.args.game.now c.loop-m.m-index c.loop-m.position c.m-item.result c.loop-m-test.true c.m-item.is c.loop-m.invariant

pub loop-m-preserved : goal.loop-m-preserved
loop-m-preserved c = comes_on c.args.game.now c.loop-m.m-index c.loop-m.position c.after-position.result c.m-item.result c.loop-m-test.true c.m-item.is c.loop-m.invariant c.after-position.ensures.from c.after-position.ensures.legal

pub returns : goal.returns
returns c = comes_end c.args.game.now c.loop-m.m-index c.loop-m.position c.loop-m-test.false c.loop-m.invariant
