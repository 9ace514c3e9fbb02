use Rattle.pg_position.proofs.position.Position.play.Goals as goal

pub returns-clause-err : goal.returns-clause-err
returns-clause-err c = rw (← c.self.view_is) c.play.ensures.err
