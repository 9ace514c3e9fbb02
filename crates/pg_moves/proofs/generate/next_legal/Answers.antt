use Rattle.pg_moves.proofs.Common.{None, Some, arith}
use Rattle.pg_moves.proofs.SearchLemmas.{next_answer}
use Rattle.pg_moves.proofs.generate.next_legal.Goals as goal

pub returns-in-None : goal.returns-in-None
returns-in-None c = next_answer c.args.position.now c.args.after None _ c.first_move.result c.in-None.is tt (omega arith)
    (rw (c.new-pins.ensures, c.at.ensures, c.first.ensures.to, c.first.ensures.number) at c.first_move.ensures)

pub returns-in-Some : goal.returns-in-Some
returns-in-Some c = next_answer c.args.position.now c.args.after (Some c.in-Some.m) _ c.first_move-in-Some.result c.in-Some.is
    (c.index.ensures.bound, rw c.past.ensures.to at c.past.ensures.bound) (omega arith)
    (rw (c.new-pins.ensures, c.past.ensures.to, c.past.ensures.number) at c.first_move-in-Some.ensures)
