use Rattle.pg_fen.proofs.SquareLemmas.{UpTo}
use Rattle.pg_fen.proofs.placement.place.Given as goal

abbrev pub invariant-loop-byte : goal.invariant-loop-byte
invariant-loop-byte l = UpTo l.text l.byte-index l.at l.board
