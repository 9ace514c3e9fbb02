use Rattle.pg_moves.proofs.search.first_of_square.Goals as goal

pub returns : goal.returns
returns c = rw c.position.ensures at c.first_of_source.ensures
