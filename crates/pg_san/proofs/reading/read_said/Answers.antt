use Rattle.pg_san.proofs.WalkLemmas.{said_none, said_two, said_one}
use Rattle.pg_san.proofs.reading.read_said.Goals as goal

pub returns-then-fits_later : goal.returns-then-fits_later
returns-then-fits_later c = said_two c.args.position.now c.args.said.now c.in-Some.found c.if-fits_later.ensures.yes.0 c.in-Some.ensures c.if-fits_later.ensures.yes.1

pub returns-else-fits_later : goal.returns-else-fits_later
returns-else-fits_later c = said_one c.args.position.now c.args.said.now c.in-Some.found c.in-Some.ensures c.if-fits_later.ensures.no

pub returns-in-None : goal.returns-in-None
returns-in-None c = said_none c.args.position.now c.args.said.now c.in-None.ensures
