use Rattle.pg_searcher.proofs.led.trials.Trials.next_legal.Goals as goal

pub returns-then-is_legal : goal.returns-then-is_legal
returns-then-is_legal c = c.is_legal.ensures.0 c.if-is_legal.true
