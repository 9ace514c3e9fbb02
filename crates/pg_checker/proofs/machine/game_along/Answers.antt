use Rattle.pg_checker.proofs.Common.{sym, refl, ◌∙◌, arith}
use Rattle.pg_checker.proofs.FrameViews.{path_none, along_some, along_none}
use Rattle.pg_checker.proofs.machine.game_along.Goals.{in-Some, in-None}
use Rattle.pg_checker.proofs.machine.game_along.Goals as goal

pub loop-frame-init : goal.loop-frame-init
loop-frame-init c = (c.new-game.ensures ∙ sym path_none, rw c.new-game.ensures (omega arith))

pub loop-frame-preserved : goal.loop-frame-preserved
loop-frame-preserved c = elim c.match-last.branch [
  | in-Some w ↦ along_some c.args.frames.now c.loop-frame.frame-index c.frame-item.result w.in-Some.m c.loop-frame.game.items c.match-last.game.items c.loop-frame-test.true c.frame-item.is (sym c.last.ensures ∙ w.in-Some.is) c.loop-frame.invariant (rw w.game-is w.push.ensures.items)
  | in-None w ↦ along_none c.args.frames.now c.loop-frame.frame-index c.frame-item.result c.loop-frame.game.items c.match-last.game.items c.loop-frame-test.true c.frame-item.is (sym c.last.ensures ∙ w.in-None.is) c.loop-frame.invariant (rw w.game-is refl)
]
