use Rattle.tests_of_bounds.proofs.texts.says_after.Goals as goal

pub excludes_after-requires : goal.excludes_after-requires
excludes_after-requires g c = c.is_legal.ensures.0 c.if-is_legal.true
