use Rattle.pg_cli.proofs.SolveLemmas.{beside_some}
use Rattle.pg_cli.proofs.solving.solve_problem.Goals as goal

pub returns : goal.returns
returns g c = beside_some c.args.orders.now.as_pgn c.args.problem.diagram c.args.problem.length c.args.games c.solve_entry.result _ _ c.solve_entry.ensures
