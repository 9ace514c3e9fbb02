use Rattle.pg_judge.proofs.GameLemmas.{shown_by_two}
use Rattle.pg_judge.proofs.judging.found_at_last.Goals as goal

pub returns-then-are_a_cook : goal.returns-then-are_a_cook
returns-then-are_a_cook c = let h = c.are_a_cook.ensures c.if-are_a_cook.true in shown_by_two c.args.entry.now.problem.diagram c.args.entry.now.problem.length c.args.games h.0 h.1
