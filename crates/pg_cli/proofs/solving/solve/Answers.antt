use Rattle.pg_cli.proofs.StatusLemmas.{tells}
use Rattle.pg_cli.proofs.solving.solve.Goals as goal

pub returns : goal.returns
returns g c =
    let board = c.in-Ok.board in
    tells c.solve_board.result _ _ c.solve_board.ensures (λ status k. (k.0, c.orders_of-orders.result.as_pgn, c.orders_of-orders.ensures, board.diagram, board.asked, c.in-Ok.ensures.spelled, k.1))
