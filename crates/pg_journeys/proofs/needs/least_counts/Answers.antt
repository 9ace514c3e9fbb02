use Rattle.pg_journeys.proofs.Common.{Moves, QuietMoves}
use Rattle.pg_journeys.proofs.LeastNeeds.{need_here}
use Rattle.pg_journeys.proofs.Lifting.{few_here, room_here, room_as_it_was, seen_as_it_was, side_as_it_was}
use Rattle.pg_journeys.proofs.RestingLemmas.{lifted_few}
use Rattle.pg_journeys.proofs.needs.least_counts.Goals as goal

pub side_of-side-requires-clause-few : goal.side_of-side-requires-clause-few
side_of-side-requires-clause-few c = lifted_few c.args.position.now.board c.empty.result 16 c.args.color (few_here c.board.result c.args.position.now.board c.args.color c.all_men-here.result c.board.ensures.value c.all_men-here.ensures.value c.if-here-gt16.false)

pub side_of-side-requires-clause-room : goal.side_of-side-requires-clause-room
side_of-side-requires-clause-room c = room_as_it_was c.args.diagram.now c.args.position.now.board c.empty.result c.args.color c.empty.ensures.value
    (room_here c.board.result c.args.position.now.board c.board-2.result c.args.diagram.now c.args.color c.all_men-here.result c.all_men.result c.board.ensures.value c.board-2.ensures.value c.all_men-here.ensures.value c.all_men.ensures.value c.if-here-all_men.false)

pub returns-clause-moves : goal.returns-clause-moves
returns-clause-moves c = need_here c.args.diagram.now c.side_of-side.result c.args.facts.now c.args.position.now c.args.color Moves c.least_in_all.result (seen_as_it_was c.args.position.now c.side_of-side.result.position c.empty.result c.empty.ensures.value c.side_of-side.ensures.position) c.side_of-side.ensures.facts c.side_of-side.ensures.color (c.least_in_all.ensures c.args.diagram.now (side_as_it_was c.args.diagram.now c.side_of-side.result c.empty.result c.empty.ensures.value c.side_of-side.ensures.side))

pub returns-clause-quiet : goal.returns-clause-quiet
returns-clause-quiet c = need_here c.args.diagram.now c.side_of-side.result c.args.facts.now c.args.position.now c.args.color QuietMoves c.least_in_all-2.result (seen_as_it_was c.args.position.now c.side_of-side.result.position c.empty.result c.empty.ensures.value c.side_of-side.ensures.position) c.side_of-side.ensures.facts c.side_of-side.ensures.color (c.least_in_all-2.ensures c.args.diagram.now (side_as_it_was c.args.diagram.now c.side_of-side.result c.empty.result c.empty.ensures.value c.side_of-side.ensures.side))
