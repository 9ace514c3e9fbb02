use Rattle.pg_position.proofs.position.Position.after.Goals as goal

pub after_legal-requires-clause-legal : goal.after_legal-requires-clause-legal
after_legal-requires-clause-legal c = rw c.self.view_is c.requires
