use Rattle.pg_fen.proofs.Common.{◌≡◌, ◌<◌, ℕ, length, get_or, packed_byte}
use Rattle.pg_fen.proofs.packing.packed_of.Given as goal

abbrev pub invariant-loop-j : goal.invariant-loop-j
invariant-loop-j l = record {
  len : length l.bytes ≡ 32;
  done : (k : ℕ) → k < l.j → get_or l.bytes k 0 ≡ packed_byte l.board k;
}
