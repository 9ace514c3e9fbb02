use Rattle.pg_moves.proofs.TurnLemmas.{exact_begins, exact_ends}
use Rattle.pg_moves.proofs.turns.begin_exact.Goals as goal

pub returns-in-Some : goal.returns-in-Some
returns-in-Some c = exact_begins c.args.position.now c.args.kind c.args.from c.args.set c.pop_first.new.self c.in-Some.to c.args.left c.args.turn.now c.requires.stands c.requires.exact c.in-Some.ensures.taken c.in-Some.ensures.rest

pub returns-in-None : goal.returns-in-None
returns-in-None c = exact_ends c.args.position.now c.args.from c.args.set c.args.left c.args.turn.now c.requires.exact c.in-None.ensures.taken
