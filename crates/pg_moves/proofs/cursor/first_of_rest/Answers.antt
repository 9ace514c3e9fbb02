use Rattle.pg_moves.proofs.RestLemmas.{rest_found, rest_done}
use Rattle.pg_moves.proofs.cursor.first_of_rest.Goals as goal

pub returns-in-Some : goal.returns-in-Some
returns-in-Some c = rest_found c.args.position.now c.args.last.now c.args.rest c.index.ensures.bound c.index-2.ensures.bound c.requires c.in-Some.to c.in-Some.ensures

pub returns-in-None : goal.returns-in-None
returns-in-None c = rest_done c.args.position.now c.args.last.now c.args.rest c.index.ensures.bound c.index-2.ensures.bound c.requires c.in-None.ensures
