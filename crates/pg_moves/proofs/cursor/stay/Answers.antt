use Rattle.pg_moves.proofs.RestLemmas.{turn_on}
use Rattle.pg_moves.proofs.cursor.stay.Goals as goal

pub returns-clause-turn : goal.returns-clause-turn
returns-clause-turn c = turn_on c.args.position.now c.args.last.now c.args.m.now c.args.turn.now c.past-turn.result c.requires.turn c.requires.same c.index.ensures.bound c.past-turn.ensures
