use Rattle.pg_fen.proofs.PackingLemmas.{IsPut}
use Rattle.pg_fen.proofs.packing.unpacked.Given as goal

abbrev pub invariant-loop-square : goal.invariant-loop-square
invariant-loop-square l = IsPut l.bytes l.square l.board
