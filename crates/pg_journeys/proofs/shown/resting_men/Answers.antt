use Rattle.pg_journeys.proofs.Lifting.{differing_here}
use Rattle.pg_journeys.proofs.RestingShown.{resting_of_sets}
use Rattle.pg_journeys.proofs.shown.resting_men.Goals as goal

pub returns : goal.returns
returns c =
    resting_of_sets c.args.facts.now c.args.diagram.now c.args.position.now c.differing.result c.passing_pawn.result c.sub-same.result c.sub.result c.sub-spared.result c.sub-2.result
    c.sub-same.ensures.members c.sub.ensures.members c.sub-spared.ensures.members c.sub-2.ensures.members
    (differing_here c.args.position.now.board c.args.diagram.now c.board.result c.board-2.result c.differing.result c.board.ensures.value c.board-2.ensures.value c.differing.ensures)
    (λ b s u low passes. c.passing_pawn.ensures b s u passes low)
