use Rattle.pg_checker.proofs.listed.check_game.Goals as goal

pub returns-then-reaches-clause-ok : goal.returns-then-reaches-clause-ok
returns-then-reaches-clause-ok c = (c.if-game-plies.false, c.reaches.ensures.0 c.if-reaches.true)
