use Rattle.pg_journeys.proofs.Common.{known}
use Rattle.pg_journeys.proofs.WhoIsReached.{tells_here, tells_some, tells_none}
use Rattle.pg_journeys.proofs.Lifting.{few_here, room_here, room_as_it_was, seen_as_it_was, side_as_it_was}
use Rattle.pg_journeys.proofs.RestingLemmas.{lifted_few}
use Rattle.pg_journeys.proofs.needs.unreached.Goals as goal

pub side_of-side-requires-clause-few : goal.side_of-side-requires-clause-few
side_of-side-requires-clause-few c = lifted_few c.args.position.now.board c.empty.result 16 c.args.color (few_here c.board.result c.args.position.now.board c.args.color c.all_men-here.result c.board.ensures.value c.all_men-here.ensures.value c.if-here-gt16.false)

pub side_of-side-requires-clause-room : goal.side_of-side-requires-clause-room
side_of-side-requires-clause-room c = room_as_it_was c.args.diagram.now c.args.position.now.board c.empty.result c.args.color c.empty.ensures.value
    (room_here c.board.result c.args.position.now.board c.board-2.result c.args.diagram.now c.args.color c.all_men-here.result c.all_men.result c.board.ensures.value c.board-2.ensures.value c.all_men-here.ensures.value c.all_men.ensures.value c.if-here-all_men.false)

pub returns-clause-some : goal.returns-clause-some
returns-clause-some c =
    tells_some c.args.diagram.now (known c.args.facts.now) c.args.position.now c.args.color c.unreached_of.result
    (tells_here c.args.diagram.now c.side_of-side.result c.args.facts.now c.args.position.now c.args.color c.unreached_of.result (seen_as_it_was c.args.position.now c.side_of-side.result.position c.empty.result c.empty.ensures.value c.side_of-side.ensures.position) c.side_of-side.ensures.facts c.side_of-side.ensures.color (side_as_it_was c.args.diagram.now c.side_of-side.result c.empty.result c.empty.ensures.value c.side_of-side.ensures.side) c.unreached_of.ensures)

pub returns-clause-none : goal.returns-clause-none
returns-clause-none c =
    tells_none c.args.diagram.now (known c.args.facts.now) c.args.position.now c.args.color c.unreached_of.result
    (tells_here c.args.diagram.now c.side_of-side.result c.args.facts.now c.args.position.now c.args.color c.unreached_of.result (seen_as_it_was c.args.position.now c.side_of-side.result.position c.empty.result c.empty.ensures.value c.side_of-side.ensures.position) c.side_of-side.ensures.facts c.side_of-side.ensures.color (side_as_it_was c.args.diagram.now c.side_of-side.result c.empty.result c.empty.ensures.value c.side_of-side.ensures.side) c.unreached_of.ensures)
