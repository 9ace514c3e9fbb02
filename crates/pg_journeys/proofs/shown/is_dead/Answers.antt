use Rattle.pg_journeys.proofs.Common.{sym, ◌∙◌, known, lifted, lifted_from}
use Rattle.pg_journeys.proofs.Budgets.{budgets_of, enough_of}
use Rattle.pg_journeys.proofs.DeadColors.{alive_as, dead_here}
use Rattle.pg_journeys.proofs.Lifting.{quiet_without}
use Rattle.pg_journeys.proofs.RestingPlans.{dead_same}
use Rattle.pg_journeys.proofs.RestingLemmas.{lifted_few, lifted_room}
use Rattle.pg_journeys.proofs.shown.is_dead.Goals as goal

pub side_of-side-requires-clause-few : goal.side_of-side-requires-clause-few
side_of-side-requires-clause-few c = lifted_few c.args.course.now.position.now.board c.resting_men-resting.result 16 c.args.color (c.args.course.now.few c.args.color)

pub side_of-side-requires-clause-room : goal.side_of-side-requires-clause-room
side_of-side-requires-clause-room c = lifted_room (known c.args.facts.now) c.args.course.now.diagram.now c.args.course.now.position.now c.resting_men-resting.result c.args.color c.resting_men-resting.ensures (enough_of c.args.course.now c.args.color)

pub returns : goal.returns
returns c =
    let z = c.resting_men-resting.result in
    let d = lifted c.args.course.now.diagram.now z in
    let p = lifted_from c.args.course.now.position.now z in
    let same = dead_same (known c.args.facts.now) c.args.course.now.diagram.now c.args.course.now.position.now z c.resting_men-resting.ensures c.args.color c.args.course.now.left in
    let h = dead_here d c.side_of-side.result c.args.course.now.left c.args.facts.now p c.args.color c.some_alive.result c.side_of-side.ensures.position c.side_of-side.ensures.facts c.side_of-side.ensures.color
    (alive_as d c.args.course.now.left _ c.side_of-side.result c.by_measure-moves.result.most c.by_measure-quiet.result.most c.some_alive.result c.by_measure-moves.ensures.side c.some_alive.ensures c.side_of-side.ensures.side
    (budgets_of d c.side_of-side.result c.args.course.now.left p c.args.color c.by_measure-moves.result.most c.by_measure-quiet.result.most c.in-Some.budgets.moves c.in-Some.budgets.quiet c.side_of-side.ensures.position c.side_of-side.ensures.color c.by_measure-moves.ensures.most c.by_measure-quiet.ensures.most c.in-Some.ensures.moves
    (quiet_without (known c.args.facts.now) c.args.course.now.diagram.now c.args.course.now.position.now z c.args.color _ c.in-Some.budgets.quiet c.resting_men-resting.ensures c.in-Some.ensures.quiet))) in
    (λ t. same.1 (h.0 t), λ dead. h.1 (same.0 dead))

pub some_alive-requires : goal.some_alive-requires
some_alive-requires c = record { side = c.by_measure-quiet.ensures.side ∙ sym c.by_measure-moves.ensures.side; moves = c.by_measure-moves.ensures.quiet; quiet = c.by_measure-quiet.ensures.quiet }
