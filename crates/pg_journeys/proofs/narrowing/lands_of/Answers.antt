use Rattle.pg_journeys.proofs.Common.{ℕ, ◌+◌, ◌<◌, get_or, subst, sym, arith, TakesTo, TakesBy}
use Rattle.pg_journeys.proofs.NarrowedSteps.{with_set}
use Rattle.pg_journeys.proofs.SiftedSets.{IsJoined, join_first, join_next, join_none}
use Rattle.pg_journeys.proofs.narrowing.lands_of.Goals as goal
use Rattle.pg_journeys.proofs.narrowing.lands_of.Goals.{then-rooms-e-lt255, else-rooms-e-lt255}

pub loop-e-init : goal.loop-e-init
loop-e-init c = join_first (TakesBy c.args.side.now c.args.man.now c.args.rooms.now) c.args.lands

pub loop-e-preserved : goal.loop-e-preserved
loop-e-preserved c = elim c.if-rooms-e-lt255.branch [
  | then-rooms-e-lt255 w ↦ subst (IsJoined (TakesBy c.args.side.now c.args.man.now c.args.rooms.now) c.args.lands (c.loop-e.e + 1)) (sym w.all-is)
      (join_next (TakesBy c.args.side.now c.args.man.now c.args.rooms.now) (TakesTo c.args.side.now c.args.man.now c.loop-e.e (get_or c.args.rooms.now c.loop-e.e 0)) c.args.lands c.loop-e.e c.loop-e.all w.bitor-all.result
      (with_set (TakesTo c.args.side.now c.args.man.now c.loop-e.e (get_or c.args.rooms.now c.loop-e.e 0)) c.loop-e.all w.lands_to.result w.bitor-all.result w.lands_to.ensures w.bitor-all.ensures.members)
      (λ q l t. (w.if-rooms-e-lt255.true, t)) (λ q l t. t.1) c.loop-e.invariant)
  | else-rooms-e-lt255 w ↦ subst (IsJoined (TakesBy c.args.side.now c.args.man.now c.args.rooms.now) c.args.lands (c.loop-e.e + 1)) (sym w.all-is)
      (join_none (TakesBy c.args.side.now c.args.man.now c.args.rooms.now) c.args.lands c.loop-e.e c.loop-e.all (λ q t. (let some : get_or c.args.rooms.now c.loop-e.e 0 < 255 = t.0 in omega (arith, w.if-rooms-e-lt255.false))) c.loop-e.invariant)
]

pub returns : goal.returns
returns c = subst (λ (n : ℕ). IsJoined (TakesBy c.args.side.now c.args.man.now c.args.rooms.now) c.args.lands n c.loop-e.all) (omega (arith, c.loop-e.auto.e-end, c.loop-e-test.false)) c.loop-e.invariant
