use Rattle.tests_of_rules.proofs.position.leads.Goals as goal

pub after-requires : goal.after-requires
after-requires c = c.is_legal.ensures.0 c.if-is_legal.true
