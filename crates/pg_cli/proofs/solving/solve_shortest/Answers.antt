use Rattle.pg_cli.proofs.SolveLemmas.{beside_some, of_some}
use Rattle.pg_cli.proofs.solving.solve_shortest.Goals as goal

pub returns-in-Some : goal.returns-in-Some
returns-in-Some g c = of_some c.args.orders.now.as_pgn c.args.diagram.now c.in-Some.length c.solve_problem.result _ _ c.solve_problem.ensures

pub returns : goal.returns
returns g c =
    of_some c.args.orders.now.as_pgn c.args.diagram.now c.length_of.result c.tell_finding.result _ _
    (beside_some c.args.orders.now.as_pgn c.args.diagram.now c.length_of.result _ c.tell_finding.result _ _ c.tell_finding.ensures.ok)
