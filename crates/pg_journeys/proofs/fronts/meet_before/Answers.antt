use Rattle.pg_journeys.proofs.Common.{known}
use Rattle.pg_journeys.proofs.BackLemmas.{all_back}
use Rattle.pg_journeys.proofs.fronts.meet_before.Goals as goal

pub returns : goal.returns
returns c = all_back (known c.args.ground.now.facts) c.args.ground.now.color c.args.is_quiet c.args.kind c.args.set c.args.front.now c.meet_pieces_before.new.front c.meet_pawns_before.new.front c.meet_pieces_before.ensures c.meet_pawns_before.ensures
