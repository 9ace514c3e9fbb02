use Rattle.pg_san.proofs.Common.{◌+◌, take_rest}
use Rattle.pg_san.proofs.LineLemmas.{line_at, line_all}
use Rattle.pg_san.proofs.lines.next_line.Goals as goal

pub returns-in-Some-clause-cut : goal.returns-in-Some-clause-cut
returns-in-Some-clause-cut c = rw (c.without_return.ensures, take_rest c.args.text.now (c.in-Some.n + 1)) (line_at c.args.text.now c.in-Some.n c.in-Some.ensures.0 c.in-Some.ensures.1)

pub returns-in-None-clause-cut : goal.returns-in-None-clause-cut
returns-in-None-clause-cut c = rw c.without_return-in-None.ensures (line_all c.args.text.now c.in-None.ensures)
