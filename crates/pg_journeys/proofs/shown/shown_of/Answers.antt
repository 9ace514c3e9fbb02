use Rattle.pg_journeys.proofs.Common.{refl, known, lifted, lifted_from}
use Rattle.pg_journeys.proofs.Budgets.{budgets_of, enough_of, shown_here}
use Rattle.pg_journeys.proofs.Lifting.{quiet_without}
use Rattle.pg_journeys.proofs.RestingLemmas.{lifted_few, lifted_room}
use Rattle.pg_journeys.proofs.DecidingEnds.{steps_known}
use Rattle.pg_journeys.proofs.shown.shown_of.Goals as goal

pub side_of-side-requires-clause-few : goal.side_of-side-requires-clause-few
side_of-side-requires-clause-few c = lifted_few c.args.course.now.position.now.board c.resting_men-resting.result 16 c.args.color (c.args.course.now.few c.args.color)

pub side_of-side-requires-clause-room : goal.side_of-side-requires-clause-room
side_of-side-requires-clause-room c = lifted_room (known c.args.round.now.facts) c.args.course.now.diagram.now c.args.course.now.position.now c.resting_men-resting.result c.args.color c.resting_men-resting.ensures (enough_of c.args.course.now c.args.color)

pub returns : goal.returns
returns c =
    let z = c.resting_men-resting.result in
    let side = c.side_of-side.result in
    let d = lifted c.args.course.now.diagram.now z in
    let p = lifted_from c.args.course.now.position.now z in
    let few = quiet_without (known c.args.round.now.facts) c.args.course.now.diagram.now c.args.course.now.position.now z c.args.color _ c.in-Some.budgets.quiet c.resting_men-resting.ensures c.in-Some.ensures.quiet in
    c.with_resting.ensures (known c.args.round.now.facts) c.args.course.now.diagram.now c.args.course.now.position.now c.args.course.now.left c.args.color c.resting_men-resting.ensures
    (shown_here d side c.args.course.now.left c.args.round.now.facts p c.args.color c.shown_by.result c.side_of-side.ensures.position c.side_of-side.ensures.facts c.side_of-side.ensures.color
    (c.shown_by.ensures d c.args.course.now.left c.side_of-side.ensures.side
    (budgets_of d side c.args.course.now.left p c.args.color c.in-Some.budgets.moves c.in-Some.budgets.quiet c.in-Some.budgets.moves c.in-Some.budgets.quiet c.side_of-side.ensures.position c.side_of-side.ensures.color refl refl c.in-Some.ensures.moves few)))

pub side_of-side-requires-clause-steps : goal.side_of-side-requires-clause-steps
side_of-side-requires-clause-steps c = steps_known c.args.round.now.facts.still c.args.round.now.table.now c.args.round.now.made
