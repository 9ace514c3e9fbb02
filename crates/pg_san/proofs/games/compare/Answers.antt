use Rattle.pg_san.proofs.Common.{arith}
use Rattle.pg_san.proofs.CompareLemmas.{second_ends, first_ends}
use Rattle.pg_san.proofs.games.compare.Goals as goal

pub returns-then-i-b : goal.returns-then-i-b
returns-then-i-b c = second_ends c.args.a.now c.args.b.now c.loop-i.i c.loop-i.invariant (omega arith) (omega arith)

pub returns-then-a-b : goal.returns-then-a-b
returns-then-a-b c = first_ends c.args.a.now c.args.b.now c.loop-i.i c.loop-i.invariant (omega arith) (omega arith)
