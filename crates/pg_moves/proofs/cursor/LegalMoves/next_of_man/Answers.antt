use Rattle.pg_moves.proofs.Common.{None, Some}
use Rattle.pg_moves.proofs.LeftLemmas.{done_none, man_of}
use Rattle.pg_moves.proofs.cursor.LegalMoves.next_of_man.Goals as goal

pub returns-in-None : goal.returns-in-None
returns-in-None c = man_of c.args.self.now c.self.inside.position c.self.inside.turn.last None None c.self.view_is c.in-None.is (done_none c.self.inside.position)

pub returns-then-self : goal.returns-then-self
returns-then-self c = man_of c.args.self.now c.self.inside.position c.self.inside.turn.last (Some c.in-Some.last) c.first_of_rest.result c.self.view_is c.in-Some.is c.first_of_rest.ensures

pub returns-else-self : goal.returns-else-self
returns-else-self c = man_of c.args.self.now c.self.inside.position c.self.inside.turn.last (Some c.in-Some.last) c.next_tried.result c.self.view_is c.in-Some.is c.next_tried.ensures
