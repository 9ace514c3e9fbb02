use Rattle.pg_fen.proofs.Common.{arith}
use Rattle.pg_fen.proofs.PackingLemmas.{packed_all}
use Rattle.pg_fen.proofs.packing.packed_of.Goals as goal

pub returns : goal.returns
returns c = packed_all c.args.board.now c.loop-j.bytes c.loop-j.invariant.len (λ k lt. c.loop-j.invariant.done k (omega arith))
