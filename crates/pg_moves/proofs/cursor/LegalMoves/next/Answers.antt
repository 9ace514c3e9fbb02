use Rattle.pg_moves.proofs.LeftLemmas.{man_next}
use Rattle.pg_moves.proofs.cursor.LegalMoves.next.Goals as goal

pub returns-in-Some-clause-answer : goal.returns-in-Some-clause-answer
returns-in-Some-clause-answer c = man_next c.args.self.now.position c.args.self.now.last c.in-Some.m c.in-Some.ensures
