use Rattle.pg_moves.proofs.LeftLemmas.{of_man}
use Rattle.pg_moves.proofs.cursor.next_tried.Goals as goal

pub returns : goal.returns
returns c = of_man c.args.position.now c.args.last.now c.past.result.to c.past.result.number c.index.ensures.bound
    (rw c.past.ensures.to at c.past.ensures.bound) c.past.ensures.to c.past.ensures.number c.first_of_source.result c.first_of_source.ensures
