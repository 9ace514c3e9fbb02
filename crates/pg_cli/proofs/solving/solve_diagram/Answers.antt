use Rattle.pg_cli.proofs.SolveLemmas.{of_some}
use Rattle.pg_cli.proofs.solving.solve_diagram.Goals as goal

pub returns-in-Some : goal.returns-in-Some
returns-in-Some g c = of_some c.args.orders.now.as_pgn c.args.diagram.now c.in-Some.length c.solve_problem.result _ _ c.solve_problem.ensures
