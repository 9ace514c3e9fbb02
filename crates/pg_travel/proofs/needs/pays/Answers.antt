use Rattle.pg_travel.proofs.Common.{None}
use Rattle.pg_travel.proofs.Within.{pays_not, pays_by}
use Rattle.pg_travel.proofs.needs.pays.Goals as goal

pub returns-in-None : goal.returns-in-None
returns-in-None c = pays_not c.args.position.now c.args.diagram.now c.args.color c.args.way c.args.plies None (rw (c.board.ensures.value, c.board-2.ensures.value) at c.in-None.ensures) (λ v e. absurd (cc))

pub returns-in-Some : goal.returns-in-Some
returns-in-Some c = pays_by c.args.position.now c.args.diagram.now c.args.color c.args.way c.args.plies c.in-Some.n (rw (c.board.ensures.value, c.board-2.ensures.value) at c.in-Some.ensures)
