use Rattle.pg_cli.proofs.Common.{Some, None}
use Rattle.pg_cli.proofs.SolveLemmas.{as_asked}
use Rattle.pg_cli.proofs.solving.solve_board.Goals as goal

pub returns-in-Some : goal.returns-in-Some
returns-in-Some g c =
    as_asked c.args.orders.now.as_pgn c.args.board.now.diagram c.args.board.now.asked (Some c.in-Some.length) c.solve_problem.result _ _ c.in-Some.is c.solve_problem.ensures

pub returns-in-None : goal.returns-in-None
returns-in-None g c = as_asked c.args.orders.now.as_pgn c.args.board.now.diagram c.args.board.now.asked None c.solve_diagram.result _ _ c.in-None.is c.solve_diagram.ensures
