use Rattle.pg_checker.proofs.walk.leaf_there.Goals as goal

pub returns-clause-says : goal.returns-clause-says
returns-clause-says g c = rw (← c.position.ensures) c.leaf.ensures.says
