use Rattle.pg_journeys.proofs.Common.{rules, get_or_default_zero, square_at, MayChange}
use Rattle.pg_journeys.proofs.Masks.{one_more, no_more, not_so}
use Rattle.pg_journeys.proofs.shown.changed_in.Goals as goal
use Rattle.pg_journeys.proofs.shown.changed_in.Goals.{then-may_change, else-may_change}

pub loop-i-preserved : goal.loop-i-preserved
loop-i-preserved c = elim c.if-may_change.branch [
  | then-may_change w ↦ one_more (MayChange c.args.color c.args.own.now c.args.way c.args.moves.now c.args.quiet.now) (square_at c.args.own.now) c.loop-i.i _ _ _ _ _ c.loop-i.invariant (c.may_change.ensures.0 w.if-may_change.true) w.single.ensures (get_or_default_zero c.args.own.now.squares c.loop-i.i w.index-own-i.result (search rules)) w.bitor-changed.ensures.members w.changed-is
  | else-may_change w ↦ no_more (MayChange c.args.color c.args.own.now c.args.way c.args.moves.now c.args.quiet.now) (square_at c.args.own.now) c.loop-i.i _ _ c.loop-i.invariant (not_so c.may_change.result c.may_change.ensures w.if-may_change.false) w.changed-is
]
