use Rattle.pg_journeys.proofs.Common.{ap, sym, ℕ, false, has, known}
use Rattle.pg_journeys.proofs.AheadLemmas.{pawns_ahead, pieces_ahead, pawns_grow_ahead, pieces_grow}
use Rattle.pg_journeys.proofs.rings.step_ahead.Goals as goal

pub returns-in-Pawn-clause-met : goal.returns-in-Pawn-clause-met
returns-in-Pawn-clause-met c = pawns_ahead (known c.args.ground.now.facts) c.args.ground.now.color c.args.is_quiet c.args.men.kind c.args.men.set c.pushes_of.result c.captures_of-captures.result c.args.front.now c.meet_pawns.new.front c.meet_pawns-in-Pawn.new.front c.in-Pawn.is c.pushes_of.ensures c.captures_of-captures.ensures c.meet_pawns.ensures c.meet_pawns-in-Pawn.ensures

pub returns-in-Pawn-clause-taken : goal.returns-in-Pawn-clause-taken
returns-in-Pawn-clause-taken c = pawns_grow_ahead (known c.args.ground.now.facts) c.args.ground.now.color false c.args.men.kind c.args.men.set c.captures_of-captures.result c.args.taken.now c.take_by_pawn.new.taken c.in-Pawn.is c.captures_of-captures.ensures c.take_by_pawn.ensures

pub returns-in_default-clause-met : goal.returns-in_default-clause-met
returns-in_default-clause-met c = pieces_ahead (known c.args.ground.now.facts) c.args.ground.now.color c.args.is_quiet c.args.men.kind c.args.men.set c.steps_of-steps.result c.lands.result c.bitand-captures.result c.in_default.not-Pawn c.steps_of-steps.ensures (λ t. ap (λ (x : ℕ). has x t) (sym c.lands.ensures)) c.bitand-captures.ensures.members c.sub.result c.args.front.now c.meet.new.self c.meet-in_default.new.self c.sub.ensures.members c.meet.ensures c.meet-in_default.ensures

pub returns-in_default-clause-taken : goal.returns-in_default-clause-taken
returns-in_default-clause-taken c = pieces_grow (known c.args.ground.now.facts) c.args.ground.now.color false c.args.men.kind c.args.men.set c.steps_of-steps.result c.lands.result c.bitand-captures.result c.in_default.not-Pawn c.steps_of-steps.ensures (λ t. ap (λ (x : ℕ). has x t) (sym c.lands.ensures)) c.bitand-captures.ensures.members c.args.taken.now c.join.new.sets c.join.ensures
