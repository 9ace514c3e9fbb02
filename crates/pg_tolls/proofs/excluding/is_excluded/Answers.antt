use Rattle.pg_tolls.proofs.Paying.{lost_walls, lost_men, too_many, unpaid}
use Rattle.pg_tolls.proofs.excluding.is_excluded.Goals as goal
use Rattle.pg_tolls.proofs.excluding.is_excluded.Goals.{then-not-has_walls-via-then-not-has_walls, then-not-has_walls-via-else-not-has_walls+then-has_fewer}

pub returns-then-not-has_walls : goal.returns-then-not-has_walls
returns-then-not-has_walls c =
    elim c.then-not-has_walls.branch [
      | then-not-has_walls-via-then-not-has_walls w ↦
          lost_walls c.args.bound.now.white c.args.bound.now.black c.args.bound.now.diagram c.args.position.now c.args.left c.has_walls.result w.if-not-has_walls.true c.has_walls.ensures
      | then-not-has_walls-via-else-not-has_walls+then-has_fewer w ↦
          lost_men c.args.bound.now.white c.args.bound.now.black c.args.bound.now.diagram c.args.position.now c.args.left w.has_fewer.result w.if-has_fewer.true w.has_fewer.ensures
    ]

pub returns-then-not-has_few : goal.returns-then-not-has_few
returns-then-not-has_few c =
    too_many c.args.bound.now.white c.args.bound.now.black c.args.bound.now.diagram c.args.position.now c.args.left c.has_walls.result c.has_fewer.result c.has_few.result
    c.if-not-has_walls.false c.if-has_fewer.false c.if-not-has_few.true c.has_walls.ensures c.has_fewer.ensures c.has_few.ensures

pub returns : goal.returns
returns c =
    unpaid c.args.bound.now.white c.args.bound.now.black c.args.bound.now.diagram c.args.position.now c.args.left c.has_walls.result c.has_fewer.result c.has_few.result c.is_paid_for.result
    c.if-not-has_walls.false c.if-has_fewer.false c.if-not-has_few.false c.has_walls.ensures c.has_fewer.ensures c.has_few.ensures c.is_paid_for.ensures
