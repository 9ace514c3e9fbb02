use Rattle.pg_moves.proofs.ShiftLemmas.{ahead_set, itself}
use Rattle.pg_moves.proofs.pawns.aiming.Goals as goal

pub returns : goal.returns
returns c = ahead_set c.args.color c.args.by c.args.pawns c.seen_ahead.result c.args.goals c.bitand.result c.requires.near c.requires.inside c.seen_ahead.ensures (itself c.args.goals) c.bitand.ensures.members
