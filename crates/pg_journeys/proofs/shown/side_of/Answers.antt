use Rattle.pg_journeys.proofs.Common.{merely, lifted}
use Rattle.pg_journeys.specs.inner.SideParts.{AreParts}
use Rattle.pg_journeys.proofs.Lifting.{side_made}
use Rattle.pg_journeys.proofs.shown.side_of.Goals as goal

pub returns-clause-side : goal.returns-clause-side
returns-clause-side c =
    side_made c.args.diagram.now c.board.result c.new-scene.result c.args.position.now c.args.resting c.ground_of.result c.args.color c.men-men.result c.men_without.result c.new-scene.ensures c.men-men.ensures.pawns c.ground_of.ensures.sound
    c.ground_of.ensures.color c.men-men.ensures.all c.board.ensures.value c.men_without.ensures.all c.men-men.ensures.count c.men_without.ensures.count c.requires.room

pub invariant_of-result : goal.invariant_of-result
invariant_of-result c =
    let parts : AreParts (lifted c.args.diagram.now c.args.resting) c.new-scene.result c.ground_of.result c.men-men.result c.men_without.result =
    side_made c.args.diagram.now c.board.result c.new-scene.result c.args.position.now c.args.resting c.ground_of.result c.args.color c.men-men.result c.men_without.result c.new-scene.ensures c.men-men.ensures.pawns c.ground_of.ensures.sound
    c.ground_of.ensures.color c.men-men.ensures.all c.board.ensures.value c.men_without.ensures.all c.men-men.ensures.count c.men_without.ensures.count c.requires.room
    in
    record { few = parts.men.few; room = parts.room; made = merely (lifted c.args.diagram.now c.args.resting, parts) }
