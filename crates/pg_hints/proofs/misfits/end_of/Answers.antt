use Rattle.std.proofs.Common.{refl}
use Rattle.pg_san.proofs.GameLemmas.{step_game}
use Rattle.pg_hints.proofs.misfits.end_of.Goals as goal

pub loop-m-preserved : goal.loop-m-preserved
loop-m-preserved c = step_game c.args.game.now c.loop-m.m-index c.m-item.result c.loop-m.position c.in-Ok.next c.loop-m-test.true c.m-item.is c.loop-m.invariant ((c.in-Ok.ensures.ok c.in-Ok.next).0 refl)
