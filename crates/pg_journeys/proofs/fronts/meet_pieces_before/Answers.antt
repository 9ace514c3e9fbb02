use Rattle.pg_journeys.proofs.Common.{ap, sym, ℕ, has, known}
use Rattle.pg_journeys.proofs.BackLemmas.{pieces_back, no_pieces_back}
use Rattle.pg_journeys.proofs.fronts.meet_pieces_before.Goals as goal

pub returns-in-Pawn : goal.returns-in-Pawn
returns-in-Pawn c = no_pieces_back (known c.args.ground.now.facts) c.args.ground.now.color c.args.is_quiet c.args.kind c.args.set c.args.front.now c.in-Pawn.is

pub returns-in_default : goal.returns-in_default
returns-in_default c = pieces_back (known c.args.ground.now.facts) c.args.ground.now.color c.args.is_quiet c.args.kind c.args.set c.lands.result c.bitand-captured.result c.sub-rest.result c.steps_of.result c.steps_of-in_default.result c.args.front.now c.meet.new.self c.meet-in_default.new.self c.in_default.not-Pawn (λ t. ap (λ (x : ℕ). has x t) (sym c.lands.ensures)) c.bitand-captured.ensures.members c.sub-rest.ensures.members c.steps_of.ensures c.steps_of-in_default.ensures c.meet.ensures c.meet-in_default.ensures
