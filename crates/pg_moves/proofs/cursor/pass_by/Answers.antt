use Rattle.pg_moves.proofs.Common.{Some}
use Rattle.pg_moves.proofs.RestLemmas.{turn_past}
use Rattle.pg_moves.proofs.TurnLemmas.{all_to_come, past_to_come}
use Rattle.pg_moves.proofs.cursor.pass_by.Goals as goal

pub returns-clause-turn : goal.returns-clause-turn
returns-clause-turn c = turn_past c.args.position.now c.args.peeked.now.m c.past-turn.result c.past-turn-2.result c.args.source.now (Some c.args.peeked.now.m)
    (past_to_come c.args.position.now c.own_men.result c.past-turn.result c.args.peeked.now.m.from (all_to_come c.args.position.now c.own_men.result c.own_men.ensures) c.past-turn.ensures)
    c.requires c.index-2.ensures.bound c.past-turn-2.ensures
